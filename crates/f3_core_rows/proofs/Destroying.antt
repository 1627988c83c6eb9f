-- What these programs print, by computation.
use Rattle.std.specs.Prelude.{refl}
use Rattle.std.specs.Fmt.{digits}
use Rattle.std.specs.declared.alloc.Global.{Global}
use Rattle.f3_meaning_whole.specs.Ran.{◌>>=◌, gives, fails, stops, beyond, looks, does, asks, prints_bytes}
use Rattle.f3_meaning_whole.specs.Arithmetic.{converted, divided}
use Rattle.f3_meaning_whole.specs.Act.{fitted}
use Rattle.f3_code.specs.CoreRun.{core_calls, core_runs, core_run_of}
use Rattle.f3_core_rows.specs.Destroying as row

finals : (h : Global) → row.finals_shows h
unfolding digits converted divided prints_bytes fitted core_run_of core_runs core_calls ◌>>=◌ gives fails stops beyond looks does asks
finals h = refl

array_final : (h : Global) → row.array_final_shows h
unfolding digits converted divided prints_bytes fitted core_run_of core_runs core_calls ◌>>=◌ gives fails stops beyond looks does asks
array_final h = refl

scalar_final : (h : Global) → row.scalar_final_shows h
unfolding digits converted divided prints_bytes fitted core_run_of core_runs core_calls ◌>>=◌ gives fails stops beyond looks does asks
scalar_final h = refl

parts_in_order : (h : Global) → row.parts_in_order_shows h
unfolding digits converted divided prints_bytes fitted core_run_of core_runs core_calls ◌>>=◌ gives fails stops beyond looks does asks
parts_in_order h = refl

finals_of_sections : (h : Global) → row.finals_of_sections_shows h
unfolding digits converted divided prints_bytes fitted core_run_of core_runs core_calls ◌>>=◌ gives fails stops beyond looks does asks
finals_of_sections h = refl

other_shape : (h : Global) → row.other_shape_shows h
unfolding digits converted divided prints_bytes fitted core_run_of core_runs core_calls ◌>>=◌ gives fails stops beyond looks does asks
other_shape h = refl

same_shape : (h : Global) → row.same_shape_shows h
unfolding digits converted divided prints_bytes fitted core_run_of core_runs core_calls ◌>>=◌ gives fails stops beyond looks does asks
same_shape h = refl

deep_copy : (h : Global) → row.deep_copy_shows h
unfolding digits converted divided prints_bytes fitted core_run_of core_runs core_calls ◌>>=◌ gives fails stops beyond looks does asks
deep_copy h = refl

intent_out : (h : Global) → row.intent_out_shows h
unfolding digits converted divided prints_bytes fitted core_run_of core_runs core_calls ◌>>=◌ gives fails stops beyond looks does asks
intent_out h = refl

moves : (h : Global) → row.moves_shows h
unfolding digits converted divided prints_bytes fitted core_run_of core_runs core_calls ◌>>=◌ gives fails stops beyond looks does asks
moves h = refl

move_from_lent : (h : Global) → row.move_from_lent_shows h
unfolding digits converted divided prints_bytes fitted core_run_of core_runs core_calls ◌>>=◌ gives fails stops beyond looks does asks
move_from_lent h = refl

out_of_lent : (h : Global) → row.out_of_lent_shows h
unfolding digits converted divided prints_bytes fitted core_run_of core_runs core_calls ◌>>=◌ gives fails stops beyond looks does asks
out_of_lent h = refl

held_lends_nothing : (h : Global) → row.held_lends_nothing_shows h
unfolding digits converted divided prints_bytes fitted core_run_of core_runs core_calls ◌>>=◌ gives fails stops beyond looks does asks
held_lends_nothing h = refl

locals_at_return : (h : Global) → row.locals_at_return_shows h
unfolding digits converted divided prints_bytes fitted core_run_of core_runs core_calls ◌>>=◌ gives fails stops beyond looks does asks
locals_at_return h = refl

pub destroying_shows : row.DestroyingShows
destroying_shows h = (
  finals h,
  array_final h,
  scalar_final h,
  parts_in_order h,
  finals_of_sections h,
  other_shape h,
  same_shape h,
  deep_copy h,
  intent_out h,
  moves h,
  move_from_lent h,
  out_of_lent h,
  held_lends_nothing h,
  locals_at_return h,
)
