use Rattle.std.specs.Prelude.{refl}
use Rattle.std.specs.Fmt.{digits}
use Rattle.std.specs.declared.alloc.Global.{Global}
use Rattle.f3_meaning_whole.specs.Ran.{◌>>=◌, gives, fails, stops, beyond, looks, does, asks, prints_bytes}
use Rattle.f3_meaning_whole.specs.Arithmetic.{converted, divided}
use Rattle.f3_meaning_whole.specs.Act.{fitted}
use Rattle.f3_meaning_whole.specs.Run.{calls_of, runs, run_of}
use Rattle.f3_meaning_whole.specs.Permitted.{IsLawful}
use Rattle.f3_meaning_rows.specs.Rows4.{Rows4Show, hostile_03_do_64_shows, hostile_03_parentheses_64_shows, kinds_01_wide_shows, kinds_02_mixed_shows, kinds_06_do_shows, machine_01_sections_shows, machine_02_depth_shows, modules_01_rename_shows, modules_02_two_names_shows, sample_02_print_shows, sample_04_bump_shows, sample_06_whole_object_shows, sample_07_bounds_shows, sample_08_zero_extent_shows, sample_09_finals_shows, sample_10_array_final_shows, hostile_03_do_64, hostile_03_parentheses_64, kinds_01_wide, kinds_02_mixed, kinds_06_do, machine_01_sections, machine_02_depth, modules_01_rename, modules_02_two_names, sample_02_print, sample_04_bump, sample_06_whole_object, sample_07_bounds, sample_08_zero_extent, sample_09_finals, sample_10_array_final}

hostile_03_do_64_lawful : (h : Global) → IsLawful (hostile_03_do_64 h)
hostile_03_do_64_lawful h = record { in_main = search; in_procedures = search; in_types = search }

hostile_03_do_64_run : (h : Global) → hostile_03_do_64_shows h
unfolding digits converted divided prints_bytes fitted run_of runs calls_of ◌>>=◌ gives fails stops beyond looks does asks
hostile_03_do_64_run h = refl

hostile_03_parentheses_64_lawful : (h : Global) → IsLawful (hostile_03_parentheses_64 h)
hostile_03_parentheses_64_lawful h = record { in_main = search; in_procedures = search; in_types = search }

hostile_03_parentheses_64_run : (h : Global) → hostile_03_parentheses_64_shows h
unfolding digits converted divided prints_bytes fitted run_of runs calls_of ◌>>=◌ gives fails stops beyond looks does asks
hostile_03_parentheses_64_run h = refl

kinds_01_wide_lawful : (h : Global) → IsLawful (kinds_01_wide h)
kinds_01_wide_lawful h = record { in_main = search; in_procedures = search; in_types = search }

kinds_01_wide_run : (h : Global) → kinds_01_wide_shows h
unfolding digits converted divided prints_bytes fitted run_of runs calls_of ◌>>=◌ gives fails stops beyond looks does asks
kinds_01_wide_run h = refl

kinds_02_mixed_lawful : (h : Global) → IsLawful (kinds_02_mixed h)
kinds_02_mixed_lawful h = record { in_main = search; in_procedures = search; in_types = search }

kinds_02_mixed_run : (h : Global) → kinds_02_mixed_shows h
unfolding digits converted divided prints_bytes fitted run_of runs calls_of ◌>>=◌ gives fails stops beyond looks does asks
kinds_02_mixed_run h = refl

kinds_06_do_lawful : (h : Global) → IsLawful (kinds_06_do h)
kinds_06_do_lawful h = record { in_main = search; in_procedures = search; in_types = search }

kinds_06_do_run : (h : Global) → kinds_06_do_shows h
unfolding digits converted divided prints_bytes fitted run_of runs calls_of ◌>>=◌ gives fails stops beyond looks does asks
kinds_06_do_run h = refl

machine_01_sections_lawful : (h : Global) → IsLawful (machine_01_sections h)
machine_01_sections_lawful h = record { in_main = search; in_procedures = search; in_types = search }

machine_01_sections_run : (h : Global) → machine_01_sections_shows h
unfolding digits converted divided prints_bytes fitted run_of runs calls_of ◌>>=◌ gives fails stops beyond looks does asks
machine_01_sections_run h = refl

machine_02_depth_lawful : (h : Global) → IsLawful (machine_02_depth h)
machine_02_depth_lawful h = record { in_main = search; in_procedures = search; in_types = search }

machine_02_depth_run : (h : Global) → machine_02_depth_shows h
unfolding digits converted divided prints_bytes fitted run_of runs calls_of ◌>>=◌ gives fails stops beyond looks does asks
machine_02_depth_run h = refl

modules_01_rename_lawful : (h : Global) → IsLawful (modules_01_rename h)
modules_01_rename_lawful h = record { in_main = search; in_procedures = search; in_types = search }

modules_01_rename_run : (h : Global) → modules_01_rename_shows h
unfolding digits converted divided prints_bytes fitted run_of runs calls_of ◌>>=◌ gives fails stops beyond looks does asks
modules_01_rename_run h = refl

modules_02_two_names_lawful : (h : Global) → IsLawful (modules_02_two_names h)
modules_02_two_names_lawful h = record { in_main = search; in_procedures = search; in_types = search }

modules_02_two_names_run : (h : Global) → modules_02_two_names_shows h
unfolding digits converted divided prints_bytes fitted run_of runs calls_of ◌>>=◌ gives fails stops beyond looks does asks
modules_02_two_names_run h = refl

sample_02_print_lawful : (h : Global) → IsLawful (sample_02_print h)
sample_02_print_lawful h = record { in_main = search; in_procedures = search; in_types = search }

sample_02_print_run : (h : Global) → sample_02_print_shows h
unfolding digits converted divided prints_bytes fitted run_of runs calls_of ◌>>=◌ gives fails stops beyond looks does asks
sample_02_print_run h = refl

sample_04_bump_lawful : (h : Global) → IsLawful (sample_04_bump h)
sample_04_bump_lawful h = record { in_main = search; in_procedures = search; in_types = search }

sample_04_bump_run : (h : Global) → sample_04_bump_shows h
unfolding digits converted divided prints_bytes fitted run_of runs calls_of ◌>>=◌ gives fails stops beyond looks does asks
sample_04_bump_run h = refl

sample_06_whole_object_lawful : (h : Global) → IsLawful (sample_06_whole_object h)
sample_06_whole_object_lawful h = record { in_main = search; in_procedures = search; in_types = search }

sample_06_whole_object_run : (h : Global) → sample_06_whole_object_shows h
unfolding digits converted divided prints_bytes fitted run_of runs calls_of ◌>>=◌ gives fails stops beyond looks does asks
sample_06_whole_object_run h = refl

sample_07_bounds_lawful : (h : Global) → IsLawful (sample_07_bounds h)
sample_07_bounds_lawful h = record { in_main = search; in_procedures = search; in_types = search }

sample_07_bounds_run : (h : Global) → sample_07_bounds_shows h
unfolding digits converted divided prints_bytes fitted run_of runs calls_of ◌>>=◌ gives fails stops beyond looks does asks
sample_07_bounds_run h = refl

sample_08_zero_extent_lawful : (h : Global) → IsLawful (sample_08_zero_extent h)
sample_08_zero_extent_lawful h = record { in_main = search; in_procedures = search; in_types = search }

sample_08_zero_extent_run : (h : Global) → sample_08_zero_extent_shows h
unfolding digits converted divided prints_bytes fitted run_of runs calls_of ◌>>=◌ gives fails stops beyond looks does asks
sample_08_zero_extent_run h = refl

sample_09_finals_lawful : (h : Global) → IsLawful (sample_09_finals h)
sample_09_finals_lawful h = record { in_main = search; in_procedures = search; in_types = search }

sample_09_finals_run : (h : Global) → sample_09_finals_shows h
unfolding digits converted divided prints_bytes fitted run_of runs calls_of ◌>>=◌ gives fails stops beyond looks does asks
sample_09_finals_run h = refl

sample_10_array_final_lawful : (h : Global) → IsLawful (sample_10_array_final h)
sample_10_array_final_lawful h = record { in_main = search; in_procedures = search; in_types = search }

sample_10_array_final_run : (h : Global) → sample_10_array_final_shows h
unfolding digits converted divided prints_bytes fitted run_of runs calls_of ◌>>=◌ gives fails stops beyond looks does asks
sample_10_array_final_run h = refl

pub rows4_show : Rows4Show
rows4_show h = ((hostile_03_do_64_lawful h, hostile_03_do_64_run h), (hostile_03_parentheses_64_lawful h, hostile_03_parentheses_64_run h), (kinds_01_wide_lawful h, kinds_01_wide_run h), (kinds_02_mixed_lawful h, kinds_02_mixed_run h), (kinds_06_do_lawful h, kinds_06_do_run h), (machine_01_sections_lawful h, machine_01_sections_run h), (machine_02_depth_lawful h, machine_02_depth_run h), (modules_01_rename_lawful h, modules_01_rename_run h), (modules_02_two_names_lawful h, modules_02_two_names_run h), (sample_02_print_lawful h, sample_02_print_run h), (sample_04_bump_lawful h, sample_04_bump_run h), (sample_06_whole_object_lawful h, sample_06_whole_object_run h), (sample_07_bounds_lawful h, sample_07_bounds_run h), (sample_08_zero_extent_lawful h, sample_08_zero_extent_run h), (sample_09_finals_lawful h, sample_09_finals_run h), (sample_10_array_final_lawful h, sample_10_array_final_run h))
