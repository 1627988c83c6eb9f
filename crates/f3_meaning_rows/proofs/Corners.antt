use Rattle.std.specs.Prelude.{refl}
use Rattle.std.specs.Fmt.{digits}
use Rattle.std.specs.declared.alloc.Global.{Global}
use Rattle.f3_meaning_whole.specs.Ran.{◌>>=◌, gives, fails, stops, beyond, looks, does, asks, prints_bytes}
use Rattle.f3_meaning_whole.specs.Arithmetic.{converted, divided}
use Rattle.f3_meaning_whole.specs.Act.{fitted}
use Rattle.f3_meaning_whole.specs.Run.{calls_of, runs, run_of}
use Rattle.f3_meaning_whole.specs.Permitted.{IsLawful}
use Rattle.f3_meaning_rows.specs.Corners.{CornersShow, corner_sections, corner_functions, corner_associates, corner_intent_out, corner_moves, corner_kinds, corner_lent_objects, corner_scalars, corner_sections_shows, corner_finals_of_sections_shows, corner_functions_shows, corner_associates_shows, corner_intent_out_shows, corner_moves_shows, corner_control_shows, corner_kinds_shows, corner_lent_objects_shows, corner_scalars_shows}

corner_sections_lawful : (h : Global) → IsLawful (corner_sections h)
corner_sections_lawful h = record { in_main = search; in_procedures = search; in_types = search }

corner_sections_run : (h : Global) → corner_sections_shows h
unfolding digits converted divided prints_bytes fitted run_of runs calls_of ◌>>=◌ gives fails stops beyond looks does asks
corner_sections_run h = refl

corner_finals_of_sections_run : (h : Global) → corner_finals_of_sections_shows h
unfolding digits converted divided prints_bytes fitted run_of runs calls_of ◌>>=◌ gives fails stops beyond looks does asks
corner_finals_of_sections_run h = refl

corner_functions_lawful : (h : Global) → IsLawful (corner_functions h)
corner_functions_lawful h = record { in_main = search; in_procedures = search; in_types = search }

corner_functions_run : (h : Global) → corner_functions_shows h
unfolding digits converted divided prints_bytes fitted run_of runs calls_of ◌>>=◌ gives fails stops beyond looks does asks
corner_functions_run h = refl

corner_associates_lawful : (h : Global) → IsLawful (corner_associates h)
corner_associates_lawful h = record { in_main = search; in_procedures = search; in_types = search }

corner_associates_run : (h : Global) → corner_associates_shows h
unfolding digits converted divided prints_bytes fitted run_of runs calls_of ◌>>=◌ gives fails stops beyond looks does asks
corner_associates_run h = refl

corner_intent_out_lawful : (h : Global) → IsLawful (corner_intent_out h)
corner_intent_out_lawful h = record { in_main = search; in_procedures = search; in_types = search }

corner_intent_out_run : (h : Global) → corner_intent_out_shows h
unfolding digits converted divided prints_bytes fitted run_of runs calls_of ◌>>=◌ gives fails stops beyond looks does asks
corner_intent_out_run h = refl

corner_moves_lawful : (h : Global) → IsLawful (corner_moves h)
corner_moves_lawful h = record { in_main = search; in_procedures = search; in_types = search }

corner_moves_run : (h : Global) → corner_moves_shows h
unfolding digits converted divided prints_bytes fitted run_of runs calls_of ◌>>=◌ gives fails stops beyond looks does asks
corner_moves_run h = refl

corner_control_run : (h : Global) → corner_control_shows h
unfolding digits converted divided prints_bytes fitted run_of runs calls_of ◌>>=◌ gives fails stops beyond looks does asks
corner_control_run h = refl

corner_kinds_lawful : (h : Global) → IsLawful (corner_kinds h)
corner_kinds_lawful h = record { in_main = search; in_procedures = search; in_types = search }

corner_kinds_run : (h : Global) → corner_kinds_shows h
unfolding digits converted divided prints_bytes fitted run_of runs calls_of ◌>>=◌ gives fails stops beyond looks does asks
corner_kinds_run h = refl

corner_lent_objects_lawful : (h : Global) → IsLawful (corner_lent_objects h)
corner_lent_objects_lawful h = record { in_main = search; in_procedures = search; in_types = search }

corner_lent_objects_run : (h : Global) → corner_lent_objects_shows h
unfolding digits converted divided prints_bytes fitted run_of runs calls_of ◌>>=◌ gives fails stops beyond looks does asks
corner_lent_objects_run h = refl

corner_scalars_lawful : (h : Global) → IsLawful (corner_scalars h)
corner_scalars_lawful h = record { in_main = search; in_procedures = search; in_types = search }

corner_scalars_run : (h : Global) → corner_scalars_shows h
unfolding digits converted divided prints_bytes fitted run_of runs calls_of ◌>>=◌ gives fails stops beyond looks does asks
corner_scalars_run h = refl

pub corners_show : CornersShow
corners_show h = ((corner_sections_lawful h, corner_sections_run h), corner_finals_of_sections_run h, (corner_functions_lawful h, corner_functions_run h), (corner_associates_lawful h, corner_associates_run h), (corner_intent_out_lawful h, corner_intent_out_run h), (corner_moves_lawful h, corner_moves_run h), corner_control_run h, (corner_kinds_lawful h, corner_kinds_run h), (corner_lent_objects_lawful h, corner_lent_objects_run h), (corner_scalars_lawful h, corner_scalars_run h))
