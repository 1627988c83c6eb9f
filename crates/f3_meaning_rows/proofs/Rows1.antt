use Rattle.std.specs.Prelude.{refl}
use Rattle.std.specs.Fmt.{digits}
use Rattle.std.specs.declared.alloc.Global.{Global}
use Rattle.f3_meaning_whole.specs.Ran.{◌>>=◌, gives, fails, stops, beyond, looks, does, asks, prints_bytes}
use Rattle.f3_meaning_whole.specs.Arithmetic.{converted, divided}
use Rattle.f3_meaning_whole.specs.Act.{fitted}
use Rattle.f3_meaning_whole.specs.Run.{calls_of, runs, run_of}
use Rattle.f3_meaning_whole.specs.Permitted.{IsLawful}
use Rattle.f3_meaning_rows.specs.Rows1.{Rows1Show, heap_08_lent_element_deallocate_stat_shows, heap_09_lent_element_assign_shape_shows, heap_10_lent_element_assign_object_shows, heap_11_lent_element_move_from_shows, heap_12_lent_element_move_to_shows, heap_13_lent_element_out_allocatable_shows, heap_14_lent_element_out_object_shows, heap_15_lent_section_deallocate_shows, heap_16_lent_section_deallocate_stat_shows, heap_17_lent_section_assign_shape_shows, heap_18_lent_section_assign_object_shows, heap_19_lent_section_move_from_shows, heap_20_lent_section_move_to_shows, heap_21_lent_section_out_allocatable_shows, heap_22_lent_section_out_object_shows, heap_23_lent_empty_section_deallocate_shows, heap_08_lent_element_deallocate_stat, heap_09_lent_element_assign_shape, heap_10_lent_element_assign_object, heap_11_lent_element_move_from, heap_12_lent_element_move_to, heap_13_lent_element_out_allocatable, heap_14_lent_element_out_object, heap_15_lent_section_deallocate, heap_16_lent_section_deallocate_stat, heap_17_lent_section_assign_shape, heap_18_lent_section_assign_object, heap_19_lent_section_move_from, heap_20_lent_section_move_to, heap_21_lent_section_out_allocatable, heap_22_lent_section_out_object, heap_23_lent_empty_section_deallocate}

heap_08_lent_element_deallocate_stat_lawful : (h : Global) → IsLawful (heap_08_lent_element_deallocate_stat h)
heap_08_lent_element_deallocate_stat_lawful h = record { in_main = search; in_procedures = search; in_types = search }

heap_08_lent_element_deallocate_stat_run : (h : Global) → heap_08_lent_element_deallocate_stat_shows h
unfolding digits converted divided prints_bytes fitted run_of runs calls_of ◌>>=◌ gives fails stops beyond looks does asks
heap_08_lent_element_deallocate_stat_run h = refl

heap_09_lent_element_assign_shape_lawful : (h : Global) → IsLawful (heap_09_lent_element_assign_shape h)
heap_09_lent_element_assign_shape_lawful h = record { in_main = search; in_procedures = search; in_types = search }

heap_09_lent_element_assign_shape_run : (h : Global) → heap_09_lent_element_assign_shape_shows h
unfolding digits converted divided prints_bytes fitted run_of runs calls_of ◌>>=◌ gives fails stops beyond looks does asks
heap_09_lent_element_assign_shape_run h = refl

heap_10_lent_element_assign_object_lawful : (h : Global) → IsLawful (heap_10_lent_element_assign_object h)
heap_10_lent_element_assign_object_lawful h = record { in_main = search; in_procedures = search; in_types = search }

heap_10_lent_element_assign_object_run : (h : Global) → heap_10_lent_element_assign_object_shows h
unfolding digits converted divided prints_bytes fitted run_of runs calls_of ◌>>=◌ gives fails stops beyond looks does asks
heap_10_lent_element_assign_object_run h = refl

heap_11_lent_element_move_from_lawful : (h : Global) → IsLawful (heap_11_lent_element_move_from h)
heap_11_lent_element_move_from_lawful h = record { in_main = search; in_procedures = search; in_types = search }

heap_11_lent_element_move_from_run : (h : Global) → heap_11_lent_element_move_from_shows h
unfolding digits converted divided prints_bytes fitted run_of runs calls_of ◌>>=◌ gives fails stops beyond looks does asks
heap_11_lent_element_move_from_run h = refl

heap_12_lent_element_move_to_lawful : (h : Global) → IsLawful (heap_12_lent_element_move_to h)
heap_12_lent_element_move_to_lawful h = record { in_main = search; in_procedures = search; in_types = search }

heap_12_lent_element_move_to_run : (h : Global) → heap_12_lent_element_move_to_shows h
unfolding digits converted divided prints_bytes fitted run_of runs calls_of ◌>>=◌ gives fails stops beyond looks does asks
heap_12_lent_element_move_to_run h = refl

heap_13_lent_element_out_allocatable_lawful : (h : Global) → IsLawful (heap_13_lent_element_out_allocatable h)
heap_13_lent_element_out_allocatable_lawful h = record { in_main = search; in_procedures = search; in_types = search }

heap_13_lent_element_out_allocatable_run : (h : Global) → heap_13_lent_element_out_allocatable_shows h
unfolding digits converted divided prints_bytes fitted run_of runs calls_of ◌>>=◌ gives fails stops beyond looks does asks
heap_13_lent_element_out_allocatable_run h = refl

heap_14_lent_element_out_object_lawful : (h : Global) → IsLawful (heap_14_lent_element_out_object h)
heap_14_lent_element_out_object_lawful h = record { in_main = search; in_procedures = search; in_types = search }

heap_14_lent_element_out_object_run : (h : Global) → heap_14_lent_element_out_object_shows h
unfolding digits converted divided prints_bytes fitted run_of runs calls_of ◌>>=◌ gives fails stops beyond looks does asks
heap_14_lent_element_out_object_run h = refl

heap_15_lent_section_deallocate_lawful : (h : Global) → IsLawful (heap_15_lent_section_deallocate h)
heap_15_lent_section_deallocate_lawful h = record { in_main = search; in_procedures = search; in_types = search }

heap_15_lent_section_deallocate_run : (h : Global) → heap_15_lent_section_deallocate_shows h
unfolding digits converted divided prints_bytes fitted run_of runs calls_of ◌>>=◌ gives fails stops beyond looks does asks
heap_15_lent_section_deallocate_run h = refl

heap_16_lent_section_deallocate_stat_lawful : (h : Global) → IsLawful (heap_16_lent_section_deallocate_stat h)
heap_16_lent_section_deallocate_stat_lawful h = record { in_main = search; in_procedures = search; in_types = search }

heap_16_lent_section_deallocate_stat_run : (h : Global) → heap_16_lent_section_deallocate_stat_shows h
unfolding digits converted divided prints_bytes fitted run_of runs calls_of ◌>>=◌ gives fails stops beyond looks does asks
heap_16_lent_section_deallocate_stat_run h = refl

heap_17_lent_section_assign_shape_lawful : (h : Global) → IsLawful (heap_17_lent_section_assign_shape h)
heap_17_lent_section_assign_shape_lawful h = record { in_main = search; in_procedures = search; in_types = search }

heap_17_lent_section_assign_shape_run : (h : Global) → heap_17_lent_section_assign_shape_shows h
unfolding digits converted divided prints_bytes fitted run_of runs calls_of ◌>>=◌ gives fails stops beyond looks does asks
heap_17_lent_section_assign_shape_run h = refl

heap_18_lent_section_assign_object_lawful : (h : Global) → IsLawful (heap_18_lent_section_assign_object h)
heap_18_lent_section_assign_object_lawful h = record { in_main = search; in_procedures = search; in_types = search }

heap_18_lent_section_assign_object_run : (h : Global) → heap_18_lent_section_assign_object_shows h
unfolding digits converted divided prints_bytes fitted run_of runs calls_of ◌>>=◌ gives fails stops beyond looks does asks
heap_18_lent_section_assign_object_run h = refl

heap_19_lent_section_move_from_lawful : (h : Global) → IsLawful (heap_19_lent_section_move_from h)
heap_19_lent_section_move_from_lawful h = record { in_main = search; in_procedures = search; in_types = search }

heap_19_lent_section_move_from_run : (h : Global) → heap_19_lent_section_move_from_shows h
unfolding digits converted divided prints_bytes fitted run_of runs calls_of ◌>>=◌ gives fails stops beyond looks does asks
heap_19_lent_section_move_from_run h = refl

heap_20_lent_section_move_to_lawful : (h : Global) → IsLawful (heap_20_lent_section_move_to h)
heap_20_lent_section_move_to_lawful h = record { in_main = search; in_procedures = search; in_types = search }

heap_20_lent_section_move_to_run : (h : Global) → heap_20_lent_section_move_to_shows h
unfolding digits converted divided prints_bytes fitted run_of runs calls_of ◌>>=◌ gives fails stops beyond looks does asks
heap_20_lent_section_move_to_run h = refl

heap_21_lent_section_out_allocatable_lawful : (h : Global) → IsLawful (heap_21_lent_section_out_allocatable h)
heap_21_lent_section_out_allocatable_lawful h = record { in_main = search; in_procedures = search; in_types = search }

heap_21_lent_section_out_allocatable_run : (h : Global) → heap_21_lent_section_out_allocatable_shows h
unfolding digits converted divided prints_bytes fitted run_of runs calls_of ◌>>=◌ gives fails stops beyond looks does asks
heap_21_lent_section_out_allocatable_run h = refl

heap_22_lent_section_out_object_lawful : (h : Global) → IsLawful (heap_22_lent_section_out_object h)
heap_22_lent_section_out_object_lawful h = record { in_main = search; in_procedures = search; in_types = search }

heap_22_lent_section_out_object_run : (h : Global) → heap_22_lent_section_out_object_shows h
unfolding digits converted divided prints_bytes fitted run_of runs calls_of ◌>>=◌ gives fails stops beyond looks does asks
heap_22_lent_section_out_object_run h = refl

heap_23_lent_empty_section_deallocate_lawful : (h : Global) → IsLawful (heap_23_lent_empty_section_deallocate h)
heap_23_lent_empty_section_deallocate_lawful h = record { in_main = search; in_procedures = search; in_types = search }

heap_23_lent_empty_section_deallocate_run : (h : Global) → heap_23_lent_empty_section_deallocate_shows h
unfolding digits converted divided prints_bytes fitted run_of runs calls_of ◌>>=◌ gives fails stops beyond looks does asks
heap_23_lent_empty_section_deallocate_run h = refl

pub rows1_show : Rows1Show
rows1_show h = ((heap_08_lent_element_deallocate_stat_lawful h, heap_08_lent_element_deallocate_stat_run h), (heap_09_lent_element_assign_shape_lawful h, heap_09_lent_element_assign_shape_run h), (heap_10_lent_element_assign_object_lawful h, heap_10_lent_element_assign_object_run h), (heap_11_lent_element_move_from_lawful h, heap_11_lent_element_move_from_run h), (heap_12_lent_element_move_to_lawful h, heap_12_lent_element_move_to_run h), (heap_13_lent_element_out_allocatable_lawful h, heap_13_lent_element_out_allocatable_run h), (heap_14_lent_element_out_object_lawful h, heap_14_lent_element_out_object_run h), (heap_15_lent_section_deallocate_lawful h, heap_15_lent_section_deallocate_run h), (heap_16_lent_section_deallocate_stat_lawful h, heap_16_lent_section_deallocate_stat_run h), (heap_17_lent_section_assign_shape_lawful h, heap_17_lent_section_assign_shape_run h), (heap_18_lent_section_assign_object_lawful h, heap_18_lent_section_assign_object_run h), (heap_19_lent_section_move_from_lawful h, heap_19_lent_section_move_from_run h), (heap_20_lent_section_move_to_lawful h, heap_20_lent_section_move_to_run h), (heap_21_lent_section_out_allocatable_lawful h, heap_21_lent_section_out_allocatable_run h), (heap_22_lent_section_out_object_lawful h, heap_22_lent_section_out_object_run h), (heap_23_lent_empty_section_deallocate_lawful h, heap_23_lent_empty_section_deallocate_run h))
