use Rattle.std.specs.Prelude.{refl}
use Rattle.std.specs.Fmt.{digits}
use Rattle.std.specs.declared.alloc.Global.{Global}
use Rattle.f3_meaning_whole.specs.Ran.{◌>>=◌, gives, fails, stops, beyond, looks, does, asks, prints_bytes}
use Rattle.f3_meaning_whole.specs.Arithmetic.{converted, divided}
use Rattle.f3_meaning_whole.specs.Act.{fitted}
use Rattle.f3_meaning_whole.specs.Run.{calls_of, runs, run_of}
use Rattle.f3_meaning_whole.specs.Permitted.{IsLawful}
use Rattle.f3_meaning_rows.specs.Rows0.{Rows0Show, allocatable_01_deep_copy_shows, allocatable_02_scalar_value_shows, allocatable_02_stat_shows, allocatable_02_too_large_shows, allocatable_03_assumed_shape_shows, associate_01_lent_shows, associate_01_selectors_shows, associate_03_return_shows, finalizer_01_frees_its_holder_shows, finalizer_02_order_shows, heap_01_stat_ample_shows, heap_04_other_shape_shows, heap_04_same_shape_shows, heap_05_dummy_itself_shows, heap_06_held_value_shows, heap_07_lent_element_deallocate_shows, allocatable_01_deep_copy, allocatable_02_scalar_value, allocatable_02_stat, allocatable_02_too_large, allocatable_03_assumed_shape, associate_01_lent, associate_01_selectors, associate_03_return, finalizer_01_frees_its_holder, finalizer_02_order, heap_01_stat_ample, heap_04_other_shape, heap_04_same_shape, heap_05_dummy_itself, heap_06_held_value, heap_07_lent_element_deallocate}

allocatable_01_deep_copy_lawful : (h : Global) → IsLawful (allocatable_01_deep_copy h)
allocatable_01_deep_copy_lawful h = record { in_main = search; in_procedures = search; in_types = search }

allocatable_01_deep_copy_run : (h : Global) → allocatable_01_deep_copy_shows h
unfolding digits converted divided prints_bytes fitted run_of runs calls_of ◌>>=◌ gives fails stops beyond looks does asks
allocatable_01_deep_copy_run h = refl

allocatable_02_scalar_value_lawful : (h : Global) → IsLawful (allocatable_02_scalar_value h)
allocatable_02_scalar_value_lawful h = record { in_main = search; in_procedures = search; in_types = search }

allocatable_02_scalar_value_run : (h : Global) → allocatable_02_scalar_value_shows h
unfolding digits converted divided prints_bytes fitted run_of runs calls_of ◌>>=◌ gives fails stops beyond looks does asks
allocatable_02_scalar_value_run h = refl

allocatable_02_stat_lawful : (h : Global) → IsLawful (allocatable_02_stat h)
allocatable_02_stat_lawful h = record { in_main = search; in_procedures = search; in_types = search }

allocatable_02_stat_run : (h : Global) → allocatable_02_stat_shows h
unfolding digits converted divided prints_bytes fitted run_of runs calls_of ◌>>=◌ gives fails stops beyond looks does asks
allocatable_02_stat_run h = refl

allocatable_02_too_large_lawful : (h : Global) → IsLawful (allocatable_02_too_large h)
allocatable_02_too_large_lawful h = record { in_main = search; in_procedures = search; in_types = search }

allocatable_02_too_large_run : (h : Global) → allocatable_02_too_large_shows h
unfolding digits converted divided prints_bytes fitted run_of runs calls_of ◌>>=◌ gives fails stops beyond looks does asks
allocatable_02_too_large_run h = refl

allocatable_03_assumed_shape_lawful : (h : Global) → IsLawful (allocatable_03_assumed_shape h)
allocatable_03_assumed_shape_lawful h = record { in_main = search; in_procedures = search; in_types = search }

allocatable_03_assumed_shape_run : (h : Global) → allocatable_03_assumed_shape_shows h
unfolding digits converted divided prints_bytes fitted run_of runs calls_of ◌>>=◌ gives fails stops beyond looks does asks
allocatable_03_assumed_shape_run h = refl

associate_01_lent_lawful : (h : Global) → IsLawful (associate_01_lent h)
associate_01_lent_lawful h = record { in_main = search; in_procedures = search; in_types = search }

associate_01_lent_run : (h : Global) → associate_01_lent_shows h
unfolding digits converted divided prints_bytes fitted run_of runs calls_of ◌>>=◌ gives fails stops beyond looks does asks
associate_01_lent_run h = refl

associate_01_selectors_lawful : (h : Global) → IsLawful (associate_01_selectors h)
associate_01_selectors_lawful h = record { in_main = search; in_procedures = search; in_types = search }

associate_01_selectors_run : (h : Global) → associate_01_selectors_shows h
unfolding digits converted divided prints_bytes fitted run_of runs calls_of ◌>>=◌ gives fails stops beyond looks does asks
associate_01_selectors_run h = refl

associate_03_return_lawful : (h : Global) → IsLawful (associate_03_return h)
associate_03_return_lawful h = record { in_main = search; in_procedures = search; in_types = search }

associate_03_return_run : (h : Global) → associate_03_return_shows h
unfolding digits converted divided prints_bytes fitted run_of runs calls_of ◌>>=◌ gives fails stops beyond looks does asks
associate_03_return_run h = refl

finalizer_01_frees_its_holder_lawful : (h : Global) → IsLawful (finalizer_01_frees_its_holder h)
finalizer_01_frees_its_holder_lawful h = record { in_main = search; in_procedures = search; in_types = search }

finalizer_01_frees_its_holder_run : (h : Global) → finalizer_01_frees_its_holder_shows h
unfolding digits converted divided prints_bytes fitted run_of runs calls_of ◌>>=◌ gives fails stops beyond looks does asks
finalizer_01_frees_its_holder_run h = refl

finalizer_02_order_lawful : (h : Global) → IsLawful (finalizer_02_order h)
finalizer_02_order_lawful h = record { in_main = search; in_procedures = search; in_types = search }

finalizer_02_order_run : (h : Global) → finalizer_02_order_shows h
unfolding digits converted divided prints_bytes fitted run_of runs calls_of ◌>>=◌ gives fails stops beyond looks does asks
finalizer_02_order_run h = refl

heap_01_stat_ample_lawful : (h : Global) → IsLawful (heap_01_stat_ample h)
heap_01_stat_ample_lawful h = record { in_main = search; in_procedures = search; in_types = search }

heap_01_stat_ample_run : (h : Global) → heap_01_stat_ample_shows h
unfolding digits converted divided prints_bytes fitted run_of runs calls_of ◌>>=◌ gives fails stops beyond looks does asks
heap_01_stat_ample_run h = refl

heap_04_other_shape_lawful : (h : Global) → IsLawful (heap_04_other_shape h)
heap_04_other_shape_lawful h = record { in_main = search; in_procedures = search; in_types = search }

heap_04_other_shape_run : (h : Global) → heap_04_other_shape_shows h
unfolding digits converted divided prints_bytes fitted run_of runs calls_of ◌>>=◌ gives fails stops beyond looks does asks
heap_04_other_shape_run h = refl

heap_04_same_shape_lawful : (h : Global) → IsLawful (heap_04_same_shape h)
heap_04_same_shape_lawful h = record { in_main = search; in_procedures = search; in_types = search }

heap_04_same_shape_run : (h : Global) → heap_04_same_shape_shows h
unfolding digits converted divided prints_bytes fitted run_of runs calls_of ◌>>=◌ gives fails stops beyond looks does asks
heap_04_same_shape_run h = refl

heap_05_dummy_itself_lawful : (h : Global) → IsLawful (heap_05_dummy_itself h)
heap_05_dummy_itself_lawful h = record { in_main = search; in_procedures = search; in_types = search }

heap_05_dummy_itself_run : (h : Global) → heap_05_dummy_itself_shows h
unfolding digits converted divided prints_bytes fitted run_of runs calls_of ◌>>=◌ gives fails stops beyond looks does asks
heap_05_dummy_itself_run h = refl

heap_06_held_value_lawful : (h : Global) → IsLawful (heap_06_held_value h)
heap_06_held_value_lawful h = record { in_main = search; in_procedures = search; in_types = search }

heap_06_held_value_run : (h : Global) → heap_06_held_value_shows h
unfolding digits converted divided prints_bytes fitted run_of runs calls_of ◌>>=◌ gives fails stops beyond looks does asks
heap_06_held_value_run h = refl

heap_07_lent_element_deallocate_lawful : (h : Global) → IsLawful (heap_07_lent_element_deallocate h)
heap_07_lent_element_deallocate_lawful h = record { in_main = search; in_procedures = search; in_types = search }

heap_07_lent_element_deallocate_run : (h : Global) → heap_07_lent_element_deallocate_shows h
unfolding digits converted divided prints_bytes fitted run_of runs calls_of ◌>>=◌ gives fails stops beyond looks does asks
heap_07_lent_element_deallocate_run h = refl

pub rows0_show : Rows0Show
rows0_show h = ((allocatable_01_deep_copy_lawful h, allocatable_01_deep_copy_run h), (allocatable_02_scalar_value_lawful h, allocatable_02_scalar_value_run h), (allocatable_02_stat_lawful h, allocatable_02_stat_run h), (allocatable_02_too_large_lawful h, allocatable_02_too_large_run h), (allocatable_03_assumed_shape_lawful h, allocatable_03_assumed_shape_run h), (associate_01_lent_lawful h, associate_01_lent_run h), (associate_01_selectors_lawful h, associate_01_selectors_run h), (associate_03_return_lawful h, associate_03_return_run h), (finalizer_01_frees_its_holder_lawful h, finalizer_01_frees_its_holder_run h), (finalizer_02_order_lawful h, finalizer_02_order_run h), (heap_01_stat_ample_lawful h, heap_01_stat_ample_run h), (heap_04_other_shape_lawful h, heap_04_other_shape_run h), (heap_04_same_shape_lawful h, heap_04_same_shape_run h), (heap_05_dummy_itself_lawful h, heap_05_dummy_itself_run h), (heap_06_held_value_lawful h, heap_06_held_value_run h), (heap_07_lent_element_deallocate_lawful h, heap_07_lent_element_deallocate_run h))
