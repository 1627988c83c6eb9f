use Rattle.std.specs.Prelude.{refl}
use Rattle.std.specs.Fmt.{digits}
use Rattle.std.specs.declared.alloc.Global.{Global}
use Rattle.f3_meaning_whole.specs.Ran.{◌>>=◌, gives, fails, stops, beyond, looks, does, asks, prints_bytes}
use Rattle.f3_meaning_whole.specs.Arithmetic.{converted, divided}
use Rattle.f3_meaning_whole.specs.Act.{fitted}
use Rattle.f3_meaning_whole.specs.Run.{calls_of, runs, run_of}
use Rattle.f3_elaboration_rows.specs.Meant2 as row

kinds_06_do_formed : (h : Global) → row.kinds_06_do_formed h
kinds_06_do_formed h = refl

kinds_06_do_shows : (h : Global) → row.kinds_06_do_shows h
unfolding digits converted divided prints_bytes fitted run_of runs calls_of ◌>>=◌ gives fails stops beyond looks does asks
kinds_06_do_shows h = refl

machine_01_sections_formed : (h : Global) → row.machine_01_sections_formed h
machine_01_sections_formed h = refl

machine_01_sections_shows : (h : Global) → row.machine_01_sections_shows h
unfolding digits converted divided prints_bytes fitted run_of runs calls_of ◌>>=◌ gives fails stops beyond looks does asks
machine_01_sections_shows h = refl

machine_02_depth_formed : (h : Global) → row.machine_02_depth_formed h
machine_02_depth_formed h = refl

machine_02_depth_shows : (h : Global) → row.machine_02_depth_shows h
unfolding digits converted divided prints_bytes fitted run_of runs calls_of ◌>>=◌ gives fails stops beyond looks does asks
machine_02_depth_shows h = refl

modules_01_rename_formed : (h : Global) → row.modules_01_rename_formed h
modules_01_rename_formed h = refl

modules_01_rename_shows : (h : Global) → row.modules_01_rename_shows h
unfolding digits converted divided prints_bytes fitted run_of runs calls_of ◌>>=◌ gives fails stops beyond looks does asks
modules_01_rename_shows h = refl

modules_02_two_names_formed : (h : Global) → row.modules_02_two_names_formed h
modules_02_two_names_formed h = refl

modules_02_two_names_shows : (h : Global) → row.modules_02_two_names_shows h
unfolding digits converted divided prints_bytes fitted run_of runs calls_of ◌>>=◌ gives fails stops beyond looks does asks
modules_02_two_names_shows h = refl

sample_02_print_formed : (h : Global) → row.sample_02_print_formed h
sample_02_print_formed h = refl

sample_02_print_shows : (h : Global) → row.sample_02_print_shows h
unfolding digits converted divided prints_bytes fitted run_of runs calls_of ◌>>=◌ gives fails stops beyond looks does asks
sample_02_print_shows h = refl

sample_04_bump_formed : (h : Global) → row.sample_04_bump_formed h
sample_04_bump_formed h = refl

sample_04_bump_shows : (h : Global) → row.sample_04_bump_shows h
unfolding digits converted divided prints_bytes fitted run_of runs calls_of ◌>>=◌ gives fails stops beyond looks does asks
sample_04_bump_shows h = refl

sample_06_whole_object_formed : (h : Global) → row.sample_06_whole_object_formed h
sample_06_whole_object_formed h = refl

sample_06_whole_object_shows : (h : Global) → row.sample_06_whole_object_shows h
unfolding digits converted divided prints_bytes fitted run_of runs calls_of ◌>>=◌ gives fails stops beyond looks does asks
sample_06_whole_object_shows h = refl

sample_07_bounds_formed : (h : Global) → row.sample_07_bounds_formed h
sample_07_bounds_formed h = refl

sample_07_bounds_shows : (h : Global) → row.sample_07_bounds_shows h
unfolding digits converted divided prints_bytes fitted run_of runs calls_of ◌>>=◌ gives fails stops beyond looks does asks
sample_07_bounds_shows h = refl

sample_08_zero_extent_formed : (h : Global) → row.sample_08_zero_extent_formed h
sample_08_zero_extent_formed h = refl

sample_08_zero_extent_shows : (h : Global) → row.sample_08_zero_extent_shows h
unfolding digits converted divided prints_bytes fitted run_of runs calls_of ◌>>=◌ gives fails stops beyond looks does asks
sample_08_zero_extent_shows h = refl

sample_09_finals_formed : (h : Global) → row.sample_09_finals_formed h
sample_09_finals_formed h = refl

sample_09_finals_shows : (h : Global) → row.sample_09_finals_shows h
unfolding digits converted divided prints_bytes fitted run_of runs calls_of ◌>>=◌ gives fails stops beyond looks does asks
sample_09_finals_shows h = refl

sample_10_array_final_formed : (h : Global) → row.sample_10_array_final_formed h
sample_10_array_final_formed h = refl

sample_10_array_final_shows : (h : Global) → row.sample_10_array_final_shows h
unfolding digits converted divided prints_bytes fitted run_of runs calls_of ◌>>=◌ gives fails stops beyond looks does asks
sample_10_array_final_shows h = refl

pub meant2_show : row.Meant2Show
meant2_show h = (
  kinds_06_do_formed h,
  kinds_06_do_shows h,
  machine_01_sections_formed h,
  machine_01_sections_shows h,
  machine_02_depth_formed h,
  machine_02_depth_shows h,
  modules_01_rename_formed h,
  modules_01_rename_shows h,
  modules_02_two_names_formed h,
  modules_02_two_names_shows h,
  sample_02_print_formed h,
  sample_02_print_shows h,
  sample_04_bump_formed h,
  sample_04_bump_shows h,
  sample_06_whole_object_formed h,
  sample_06_whole_object_shows h,
  sample_07_bounds_formed h,
  sample_07_bounds_shows h,
  sample_08_zero_extent_formed h,
  sample_08_zero_extent_shows h,
  sample_09_finals_formed h,
  sample_09_finals_shows h,
  sample_10_array_final_formed h,
  sample_10_array_final_shows h,
)
