use Rattle.std.specs.Prelude.{refl}
use Rattle.std.specs.Fmt.{digits}
use Rattle.std.specs.declared.alloc.Global.{Global}
use Rattle.f3_meaning_whole.specs.Ran.{◌>>=◌, gives, fails, stops, beyond, looks, does, asks, prints_bytes}
use Rattle.f3_meaning_whole.specs.Arithmetic.{converted, divided}
use Rattle.f3_meaning_whole.specs.Act.{fitted}
use Rattle.f3_meaning_whole.specs.Run.{calls_of, runs, run_of}
use Rattle.f3_elaboration_rows.specs.Meant10 as row

corner_functions_formed : (h : Global) → row.corner_functions_formed h
corner_functions_formed h = refl

corner_functions_shows : (h : Global) → row.corner_functions_shows h
unfolding digits converted divided prints_bytes fitted run_of runs calls_of ◌>>=◌ gives fails stops beyond looks does asks
corner_functions_shows h = refl

corner_associates_formed : (h : Global) → row.corner_associates_formed h
corner_associates_formed h = refl

corner_associates_shows : (h : Global) → row.corner_associates_shows h
unfolding digits converted divided prints_bytes fitted run_of runs calls_of ◌>>=◌ gives fails stops beyond looks does asks
corner_associates_shows h = refl

corner_intent_out_formed : (h : Global) → row.corner_intent_out_formed h
corner_intent_out_formed h = refl

corner_intent_out_shows : (h : Global) → row.corner_intent_out_shows h
unfolding digits converted divided prints_bytes fitted run_of runs calls_of ◌>>=◌ gives fails stops beyond looks does asks
corner_intent_out_shows h = refl

corner_moves_formed : (h : Global) → row.corner_moves_formed h
corner_moves_formed h = refl

corner_moves_shows : (h : Global) → row.corner_moves_shows h
unfolding digits converted divided prints_bytes fitted run_of runs calls_of ◌>>=◌ gives fails stops beyond looks does asks
corner_moves_shows h = refl

corner_control_formed : (h : Global) → row.corner_control_formed h
corner_control_formed h = refl

corner_control_shows : (h : Global) → row.corner_control_shows h
unfolding digits converted divided prints_bytes fitted run_of runs calls_of ◌>>=◌ gives fails stops beyond looks does asks
corner_control_shows h = refl

corner_kinds_formed : (h : Global) → row.corner_kinds_formed h
corner_kinds_formed h = refl

corner_kinds_shows : (h : Global) → row.corner_kinds_shows h
unfolding digits converted divided prints_bytes fitted run_of runs calls_of ◌>>=◌ gives fails stops beyond looks does asks
corner_kinds_shows h = refl

corner_lent_objects_formed : (h : Global) → row.corner_lent_objects_formed h
corner_lent_objects_formed h = refl

corner_lent_objects_shows : (h : Global) → row.corner_lent_objects_shows h
unfolding digits converted divided prints_bytes fitted run_of runs calls_of ◌>>=◌ gives fails stops beyond looks does asks
corner_lent_objects_shows h = refl

corner_scalars_formed : (h : Global) → row.corner_scalars_formed h
corner_scalars_formed h = refl

corner_scalars_shows : (h : Global) → row.corner_scalars_shows h
unfolding digits converted divided prints_bytes fitted run_of runs calls_of ◌>>=◌ gives fails stops beyond looks does asks
corner_scalars_shows h = refl

stat_last_formed : (h : Global) → row.stat_last_formed h
stat_last_formed h = refl

stat_last_shows : (h : Global) → row.stat_last_shows h
unfolding digits converted divided prints_bytes fitted run_of runs calls_of ◌>>=◌ gives fails stops beyond looks does asks
stat_last_shows h = refl

out_while_lent_formed : (h : Global) → row.out_while_lent_formed h
out_while_lent_formed h = refl

out_while_lent_shows : (h : Global) → row.out_while_lent_shows h
unfolding digits converted divided prints_bytes fitted run_of runs calls_of ◌>>=◌ gives fails stops beyond looks does asks
out_while_lent_shows h = refl

held_is_not_final_formed : (h : Global) → row.held_is_not_final_formed h
held_is_not_final_formed h = refl

held_is_not_final_shows : (h : Global) → row.held_is_not_final_shows h
unfolding digits converted divided prints_bytes fitted run_of runs calls_of ◌>>=◌ gives fails stops beyond looks does asks
held_is_not_final_shows h = refl

move_lends_formed : (h : Global) → row.move_lends_formed h
move_lends_formed h = refl

move_lends_shows : (h : Global) → row.move_lends_shows h
unfolding digits converted divided prints_bytes fitted run_of runs calls_of ◌>>=◌ gives fails stops beyond looks does asks
move_lends_shows h = refl

pub meant10_show : row.Meant10Show
meant10_show h = (
  corner_functions_formed h,
  corner_functions_shows h,
  corner_associates_formed h,
  corner_associates_shows h,
  corner_intent_out_formed h,
  corner_intent_out_shows h,
  corner_moves_formed h,
  corner_moves_shows h,
  corner_control_formed h,
  corner_control_shows h,
  corner_kinds_formed h,
  corner_kinds_shows h,
  corner_lent_objects_formed h,
  corner_lent_objects_shows h,
  corner_scalars_formed h,
  corner_scalars_shows h,
  stat_last_formed h,
  stat_last_shows h,
  out_while_lent_formed h,
  out_while_lent_shows h,
  held_is_not_final_formed h,
  held_is_not_final_shows h,
  move_lends_formed h,
  move_lends_shows h,
)
