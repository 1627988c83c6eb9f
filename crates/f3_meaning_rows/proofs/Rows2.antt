use Rattle.std.specs.Prelude.{refl}
use Rattle.std.specs.Fmt.{digits}
use Rattle.std.specs.declared.alloc.Global.{Global}
use Rattle.f3_meaning_whole.specs.Ran.{◌>>=◌, gives, fails, stops, beyond, looks, does, asks, prints_bytes}
use Rattle.f3_meaning_whole.specs.Arithmetic.{converted, divided}
use Rattle.f3_meaning_whole.specs.Act.{fitted}
use Rattle.f3_meaning_whole.specs.Run.{calls_of, runs, run_of}
use Rattle.f3_meaning_whole.specs.Permitted.{IsLawful}
use Rattle.f3_meaning_rows.specs.Rows2.{Rows2Show, heap_24_lent_empty_section_deallocate_stat_shows, heap_25_lent_empty_section_assign_shape_shows, heap_26_lent_empty_section_assign_object_shows, heap_27_lent_empty_section_move_from_shows, heap_28_lent_empty_section_move_to_shows, heap_29_lent_empty_section_out_allocatable_shows, heap_30_lent_empty_section_out_object_shows, heap_31_lent_whole_array_deallocate_shows, heap_32_lent_whole_array_deallocate_stat_shows, heap_33_lent_whole_array_assign_shape_shows, heap_34_lent_whole_array_assign_object_shows, heap_35_lent_whole_array_move_from_shows, heap_36_lent_whole_array_move_to_shows, heap_37_lent_whole_array_out_allocatable_shows, heap_38_lent_whole_array_out_object_shows, heap_39_lent_allocatable_dummy_deallocate_shows, heap_24_lent_empty_section_deallocate_stat, heap_25_lent_empty_section_assign_shape, heap_26_lent_empty_section_assign_object, heap_27_lent_empty_section_move_from, heap_28_lent_empty_section_move_to, heap_29_lent_empty_section_out_allocatable, heap_30_lent_empty_section_out_object, heap_31_lent_whole_array_deallocate, heap_32_lent_whole_array_deallocate_stat, heap_33_lent_whole_array_assign_shape, heap_34_lent_whole_array_assign_object, heap_35_lent_whole_array_move_from, heap_36_lent_whole_array_move_to, heap_37_lent_whole_array_out_allocatable, heap_38_lent_whole_array_out_object, heap_39_lent_allocatable_dummy_deallocate}

heap_24_lent_empty_section_deallocate_stat_lawful : (h : Global) → IsLawful (heap_24_lent_empty_section_deallocate_stat h)
heap_24_lent_empty_section_deallocate_stat_lawful h = record { in_main = search; in_procedures = search; in_types = search }

heap_24_lent_empty_section_deallocate_stat_run : (h : Global) → heap_24_lent_empty_section_deallocate_stat_shows h
unfolding digits converted divided prints_bytes fitted run_of runs calls_of ◌>>=◌ gives fails stops beyond looks does asks
heap_24_lent_empty_section_deallocate_stat_run h = refl

heap_25_lent_empty_section_assign_shape_lawful : (h : Global) → IsLawful (heap_25_lent_empty_section_assign_shape h)
heap_25_lent_empty_section_assign_shape_lawful h = record { in_main = search; in_procedures = search; in_types = search }

heap_25_lent_empty_section_assign_shape_run : (h : Global) → heap_25_lent_empty_section_assign_shape_shows h
unfolding digits converted divided prints_bytes fitted run_of runs calls_of ◌>>=◌ gives fails stops beyond looks does asks
heap_25_lent_empty_section_assign_shape_run h = refl

heap_26_lent_empty_section_assign_object_lawful : (h : Global) → IsLawful (heap_26_lent_empty_section_assign_object h)
heap_26_lent_empty_section_assign_object_lawful h = record { in_main = search; in_procedures = search; in_types = search }

heap_26_lent_empty_section_assign_object_run : (h : Global) → heap_26_lent_empty_section_assign_object_shows h
unfolding digits converted divided prints_bytes fitted run_of runs calls_of ◌>>=◌ gives fails stops beyond looks does asks
heap_26_lent_empty_section_assign_object_run h = refl

heap_27_lent_empty_section_move_from_lawful : (h : Global) → IsLawful (heap_27_lent_empty_section_move_from h)
heap_27_lent_empty_section_move_from_lawful h = record { in_main = search; in_procedures = search; in_types = search }

heap_27_lent_empty_section_move_from_run : (h : Global) → heap_27_lent_empty_section_move_from_shows h
unfolding digits converted divided prints_bytes fitted run_of runs calls_of ◌>>=◌ gives fails stops beyond looks does asks
heap_27_lent_empty_section_move_from_run h = refl

heap_28_lent_empty_section_move_to_lawful : (h : Global) → IsLawful (heap_28_lent_empty_section_move_to h)
heap_28_lent_empty_section_move_to_lawful h = record { in_main = search; in_procedures = search; in_types = search }

heap_28_lent_empty_section_move_to_run : (h : Global) → heap_28_lent_empty_section_move_to_shows h
unfolding digits converted divided prints_bytes fitted run_of runs calls_of ◌>>=◌ gives fails stops beyond looks does asks
heap_28_lent_empty_section_move_to_run h = refl

heap_29_lent_empty_section_out_allocatable_lawful : (h : Global) → IsLawful (heap_29_lent_empty_section_out_allocatable h)
heap_29_lent_empty_section_out_allocatable_lawful h = record { in_main = search; in_procedures = search; in_types = search }

heap_29_lent_empty_section_out_allocatable_run : (h : Global) → heap_29_lent_empty_section_out_allocatable_shows h
unfolding digits converted divided prints_bytes fitted run_of runs calls_of ◌>>=◌ gives fails stops beyond looks does asks
heap_29_lent_empty_section_out_allocatable_run h = refl

heap_30_lent_empty_section_out_object_lawful : (h : Global) → IsLawful (heap_30_lent_empty_section_out_object h)
heap_30_lent_empty_section_out_object_lawful h = record { in_main = search; in_procedures = search; in_types = search }

heap_30_lent_empty_section_out_object_run : (h : Global) → heap_30_lent_empty_section_out_object_shows h
unfolding digits converted divided prints_bytes fitted run_of runs calls_of ◌>>=◌ gives fails stops beyond looks does asks
heap_30_lent_empty_section_out_object_run h = refl

heap_31_lent_whole_array_deallocate_lawful : (h : Global) → IsLawful (heap_31_lent_whole_array_deallocate h)
heap_31_lent_whole_array_deallocate_lawful h = record { in_main = search; in_procedures = search; in_types = search }

heap_31_lent_whole_array_deallocate_run : (h : Global) → heap_31_lent_whole_array_deallocate_shows h
unfolding digits converted divided prints_bytes fitted run_of runs calls_of ◌>>=◌ gives fails stops beyond looks does asks
heap_31_lent_whole_array_deallocate_run h = refl

heap_32_lent_whole_array_deallocate_stat_lawful : (h : Global) → IsLawful (heap_32_lent_whole_array_deallocate_stat h)
heap_32_lent_whole_array_deallocate_stat_lawful h = record { in_main = search; in_procedures = search; in_types = search }

heap_32_lent_whole_array_deallocate_stat_run : (h : Global) → heap_32_lent_whole_array_deallocate_stat_shows h
unfolding digits converted divided prints_bytes fitted run_of runs calls_of ◌>>=◌ gives fails stops beyond looks does asks
heap_32_lent_whole_array_deallocate_stat_run h = refl

heap_33_lent_whole_array_assign_shape_lawful : (h : Global) → IsLawful (heap_33_lent_whole_array_assign_shape h)
heap_33_lent_whole_array_assign_shape_lawful h = record { in_main = search; in_procedures = search; in_types = search }

heap_33_lent_whole_array_assign_shape_run : (h : Global) → heap_33_lent_whole_array_assign_shape_shows h
unfolding digits converted divided prints_bytes fitted run_of runs calls_of ◌>>=◌ gives fails stops beyond looks does asks
heap_33_lent_whole_array_assign_shape_run h = refl

heap_34_lent_whole_array_assign_object_lawful : (h : Global) → IsLawful (heap_34_lent_whole_array_assign_object h)
heap_34_lent_whole_array_assign_object_lawful h = record { in_main = search; in_procedures = search; in_types = search }

heap_34_lent_whole_array_assign_object_run : (h : Global) → heap_34_lent_whole_array_assign_object_shows h
unfolding digits converted divided prints_bytes fitted run_of runs calls_of ◌>>=◌ gives fails stops beyond looks does asks
heap_34_lent_whole_array_assign_object_run h = refl

heap_35_lent_whole_array_move_from_lawful : (h : Global) → IsLawful (heap_35_lent_whole_array_move_from h)
heap_35_lent_whole_array_move_from_lawful h = record { in_main = search; in_procedures = search; in_types = search }

heap_35_lent_whole_array_move_from_run : (h : Global) → heap_35_lent_whole_array_move_from_shows h
unfolding digits converted divided prints_bytes fitted run_of runs calls_of ◌>>=◌ gives fails stops beyond looks does asks
heap_35_lent_whole_array_move_from_run h = refl

heap_36_lent_whole_array_move_to_lawful : (h : Global) → IsLawful (heap_36_lent_whole_array_move_to h)
heap_36_lent_whole_array_move_to_lawful h = record { in_main = search; in_procedures = search; in_types = search }

heap_36_lent_whole_array_move_to_run : (h : Global) → heap_36_lent_whole_array_move_to_shows h
unfolding digits converted divided prints_bytes fitted run_of runs calls_of ◌>>=◌ gives fails stops beyond looks does asks
heap_36_lent_whole_array_move_to_run h = refl

heap_37_lent_whole_array_out_allocatable_lawful : (h : Global) → IsLawful (heap_37_lent_whole_array_out_allocatable h)
heap_37_lent_whole_array_out_allocatable_lawful h = record { in_main = search; in_procedures = search; in_types = search }

heap_37_lent_whole_array_out_allocatable_run : (h : Global) → heap_37_lent_whole_array_out_allocatable_shows h
unfolding digits converted divided prints_bytes fitted run_of runs calls_of ◌>>=◌ gives fails stops beyond looks does asks
heap_37_lent_whole_array_out_allocatable_run h = refl

heap_38_lent_whole_array_out_object_lawful : (h : Global) → IsLawful (heap_38_lent_whole_array_out_object h)
heap_38_lent_whole_array_out_object_lawful h = record { in_main = search; in_procedures = search; in_types = search }

heap_38_lent_whole_array_out_object_run : (h : Global) → heap_38_lent_whole_array_out_object_shows h
unfolding digits converted divided prints_bytes fitted run_of runs calls_of ◌>>=◌ gives fails stops beyond looks does asks
heap_38_lent_whole_array_out_object_run h = refl

heap_39_lent_allocatable_dummy_deallocate_lawful : (h : Global) → IsLawful (heap_39_lent_allocatable_dummy_deallocate h)
heap_39_lent_allocatable_dummy_deallocate_lawful h = record { in_main = search; in_procedures = search; in_types = search }

heap_39_lent_allocatable_dummy_deallocate_run : (h : Global) → heap_39_lent_allocatable_dummy_deallocate_shows h
unfolding digits converted divided prints_bytes fitted run_of runs calls_of ◌>>=◌ gives fails stops beyond looks does asks
heap_39_lent_allocatable_dummy_deallocate_run h = refl

pub rows2_show : Rows2Show
rows2_show h = ((heap_24_lent_empty_section_deallocate_stat_lawful h, heap_24_lent_empty_section_deallocate_stat_run h), (heap_25_lent_empty_section_assign_shape_lawful h, heap_25_lent_empty_section_assign_shape_run h), (heap_26_lent_empty_section_assign_object_lawful h, heap_26_lent_empty_section_assign_object_run h), (heap_27_lent_empty_section_move_from_lawful h, heap_27_lent_empty_section_move_from_run h), (heap_28_lent_empty_section_move_to_lawful h, heap_28_lent_empty_section_move_to_run h), (heap_29_lent_empty_section_out_allocatable_lawful h, heap_29_lent_empty_section_out_allocatable_run h), (heap_30_lent_empty_section_out_object_lawful h, heap_30_lent_empty_section_out_object_run h), (heap_31_lent_whole_array_deallocate_lawful h, heap_31_lent_whole_array_deallocate_run h), (heap_32_lent_whole_array_deallocate_stat_lawful h, heap_32_lent_whole_array_deallocate_stat_run h), (heap_33_lent_whole_array_assign_shape_lawful h, heap_33_lent_whole_array_assign_shape_run h), (heap_34_lent_whole_array_assign_object_lawful h, heap_34_lent_whole_array_assign_object_run h), (heap_35_lent_whole_array_move_from_lawful h, heap_35_lent_whole_array_move_from_run h), (heap_36_lent_whole_array_move_to_lawful h, heap_36_lent_whole_array_move_to_run h), (heap_37_lent_whole_array_out_allocatable_lawful h, heap_37_lent_whole_array_out_allocatable_run h), (heap_38_lent_whole_array_out_object_lawful h, heap_38_lent_whole_array_out_object_run h), (heap_39_lent_allocatable_dummy_deallocate_lawful h, heap_39_lent_allocatable_dummy_deallocate_run h))
