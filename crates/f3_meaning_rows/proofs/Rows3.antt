use Rattle.std.specs.Prelude.{refl}
use Rattle.std.specs.Fmt.{digits}
use Rattle.std.specs.declared.alloc.Global.{Global}
use Rattle.f3_meaning_whole.specs.Ran.{◌>>=◌, gives, fails, stops, beyond, looks, does, asks, prints_bytes}
use Rattle.f3_meaning_whole.specs.Arithmetic.{converted, divided}
use Rattle.f3_meaning_whole.specs.Act.{fitted}
use Rattle.f3_meaning_whole.specs.Run.{calls_of, runs, run_of}
use Rattle.f3_meaning_whole.specs.Permitted.{IsLawful}
use Rattle.f3_meaning_rows.specs.Rows3.{Rows3Show, heap_40_lent_allocatable_dummy_deallocate_stat_shows, heap_41_lent_allocatable_dummy_assign_shape_shows, heap_42_lent_allocatable_dummy_assign_object_shows, heap_43_lent_allocatable_dummy_move_from_shows, heap_44_lent_allocatable_dummy_move_to_shows, heap_45_lent_allocatable_dummy_out_allocatable_shows, heap_46_lent_allocatable_dummy_out_object_shows, heap_47_lent_final_deallocate_shows, heap_48_lent_final_deallocate_stat_shows, heap_49_lent_final_assign_shape_shows, heap_50_lent_final_assign_object_shows, heap_51_lent_final_move_from_shows, heap_52_lent_final_move_to_shows, heap_53_lent_final_out_allocatable_shows, heap_54_lent_final_out_object_shows, hostile_02_name_63_shows, heap_40_lent_allocatable_dummy_deallocate_stat, heap_41_lent_allocatable_dummy_assign_shape, heap_42_lent_allocatable_dummy_assign_object, heap_43_lent_allocatable_dummy_move_from, heap_44_lent_allocatable_dummy_move_to, heap_45_lent_allocatable_dummy_out_allocatable, heap_46_lent_allocatable_dummy_out_object, heap_47_lent_final_deallocate, heap_48_lent_final_deallocate_stat, heap_49_lent_final_assign_shape, heap_50_lent_final_assign_object, heap_51_lent_final_move_from, heap_52_lent_final_move_to, heap_53_lent_final_out_allocatable, heap_54_lent_final_out_object, hostile_02_name_63}

heap_40_lent_allocatable_dummy_deallocate_stat_lawful : (h : Global) → IsLawful (heap_40_lent_allocatable_dummy_deallocate_stat h)
heap_40_lent_allocatable_dummy_deallocate_stat_lawful h = record { in_main = search; in_procedures = search; in_types = search }

heap_40_lent_allocatable_dummy_deallocate_stat_run : (h : Global) → heap_40_lent_allocatable_dummy_deallocate_stat_shows h
unfolding digits converted divided prints_bytes fitted run_of runs calls_of ◌>>=◌ gives fails stops beyond looks does asks
heap_40_lent_allocatable_dummy_deallocate_stat_run h = refl

heap_41_lent_allocatable_dummy_assign_shape_lawful : (h : Global) → IsLawful (heap_41_lent_allocatable_dummy_assign_shape h)
heap_41_lent_allocatable_dummy_assign_shape_lawful h = record { in_main = search; in_procedures = search; in_types = search }

heap_41_lent_allocatable_dummy_assign_shape_run : (h : Global) → heap_41_lent_allocatable_dummy_assign_shape_shows h
unfolding digits converted divided prints_bytes fitted run_of runs calls_of ◌>>=◌ gives fails stops beyond looks does asks
heap_41_lent_allocatable_dummy_assign_shape_run h = refl

heap_42_lent_allocatable_dummy_assign_object_lawful : (h : Global) → IsLawful (heap_42_lent_allocatable_dummy_assign_object h)
heap_42_lent_allocatable_dummy_assign_object_lawful h = record { in_main = search; in_procedures = search; in_types = search }

heap_42_lent_allocatable_dummy_assign_object_run : (h : Global) → heap_42_lent_allocatable_dummy_assign_object_shows h
unfolding digits converted divided prints_bytes fitted run_of runs calls_of ◌>>=◌ gives fails stops beyond looks does asks
heap_42_lent_allocatable_dummy_assign_object_run h = refl

heap_43_lent_allocatable_dummy_move_from_lawful : (h : Global) → IsLawful (heap_43_lent_allocatable_dummy_move_from h)
heap_43_lent_allocatable_dummy_move_from_lawful h = record { in_main = search; in_procedures = search; in_types = search }

heap_43_lent_allocatable_dummy_move_from_run : (h : Global) → heap_43_lent_allocatable_dummy_move_from_shows h
unfolding digits converted divided prints_bytes fitted run_of runs calls_of ◌>>=◌ gives fails stops beyond looks does asks
heap_43_lent_allocatable_dummy_move_from_run h = refl

heap_44_lent_allocatable_dummy_move_to_lawful : (h : Global) → IsLawful (heap_44_lent_allocatable_dummy_move_to h)
heap_44_lent_allocatable_dummy_move_to_lawful h = record { in_main = search; in_procedures = search; in_types = search }

heap_44_lent_allocatable_dummy_move_to_run : (h : Global) → heap_44_lent_allocatable_dummy_move_to_shows h
unfolding digits converted divided prints_bytes fitted run_of runs calls_of ◌>>=◌ gives fails stops beyond looks does asks
heap_44_lent_allocatable_dummy_move_to_run h = refl

heap_45_lent_allocatable_dummy_out_allocatable_lawful : (h : Global) → IsLawful (heap_45_lent_allocatable_dummy_out_allocatable h)
heap_45_lent_allocatable_dummy_out_allocatable_lawful h = record { in_main = search; in_procedures = search; in_types = search }

heap_45_lent_allocatable_dummy_out_allocatable_run : (h : Global) → heap_45_lent_allocatable_dummy_out_allocatable_shows h
unfolding digits converted divided prints_bytes fitted run_of runs calls_of ◌>>=◌ gives fails stops beyond looks does asks
heap_45_lent_allocatable_dummy_out_allocatable_run h = refl

heap_46_lent_allocatable_dummy_out_object_lawful : (h : Global) → IsLawful (heap_46_lent_allocatable_dummy_out_object h)
heap_46_lent_allocatable_dummy_out_object_lawful h = record { in_main = search; in_procedures = search; in_types = search }

heap_46_lent_allocatable_dummy_out_object_run : (h : Global) → heap_46_lent_allocatable_dummy_out_object_shows h
unfolding digits converted divided prints_bytes fitted run_of runs calls_of ◌>>=◌ gives fails stops beyond looks does asks
heap_46_lent_allocatable_dummy_out_object_run h = refl

heap_47_lent_final_deallocate_lawful : (h : Global) → IsLawful (heap_47_lent_final_deallocate h)
heap_47_lent_final_deallocate_lawful h = record { in_main = search; in_procedures = search; in_types = search }

heap_47_lent_final_deallocate_run : (h : Global) → heap_47_lent_final_deallocate_shows h
unfolding digits converted divided prints_bytes fitted run_of runs calls_of ◌>>=◌ gives fails stops beyond looks does asks
heap_47_lent_final_deallocate_run h = refl

heap_48_lent_final_deallocate_stat_lawful : (h : Global) → IsLawful (heap_48_lent_final_deallocate_stat h)
heap_48_lent_final_deallocate_stat_lawful h = record { in_main = search; in_procedures = search; in_types = search }

heap_48_lent_final_deallocate_stat_run : (h : Global) → heap_48_lent_final_deallocate_stat_shows h
unfolding digits converted divided prints_bytes fitted run_of runs calls_of ◌>>=◌ gives fails stops beyond looks does asks
heap_48_lent_final_deallocate_stat_run h = refl

heap_49_lent_final_assign_shape_lawful : (h : Global) → IsLawful (heap_49_lent_final_assign_shape h)
heap_49_lent_final_assign_shape_lawful h = record { in_main = search; in_procedures = search; in_types = search }

heap_49_lent_final_assign_shape_run : (h : Global) → heap_49_lent_final_assign_shape_shows h
unfolding digits converted divided prints_bytes fitted run_of runs calls_of ◌>>=◌ gives fails stops beyond looks does asks
heap_49_lent_final_assign_shape_run h = refl

heap_50_lent_final_assign_object_lawful : (h : Global) → IsLawful (heap_50_lent_final_assign_object h)
heap_50_lent_final_assign_object_lawful h = record { in_main = search; in_procedures = search; in_types = search }

heap_50_lent_final_assign_object_run : (h : Global) → heap_50_lent_final_assign_object_shows h
unfolding digits converted divided prints_bytes fitted run_of runs calls_of ◌>>=◌ gives fails stops beyond looks does asks
heap_50_lent_final_assign_object_run h = refl

heap_51_lent_final_move_from_lawful : (h : Global) → IsLawful (heap_51_lent_final_move_from h)
heap_51_lent_final_move_from_lawful h = record { in_main = search; in_procedures = search; in_types = search }

heap_51_lent_final_move_from_run : (h : Global) → heap_51_lent_final_move_from_shows h
unfolding digits converted divided prints_bytes fitted run_of runs calls_of ◌>>=◌ gives fails stops beyond looks does asks
heap_51_lent_final_move_from_run h = refl

heap_52_lent_final_move_to_lawful : (h : Global) → IsLawful (heap_52_lent_final_move_to h)
heap_52_lent_final_move_to_lawful h = record { in_main = search; in_procedures = search; in_types = search }

heap_52_lent_final_move_to_run : (h : Global) → heap_52_lent_final_move_to_shows h
unfolding digits converted divided prints_bytes fitted run_of runs calls_of ◌>>=◌ gives fails stops beyond looks does asks
heap_52_lent_final_move_to_run h = refl

heap_53_lent_final_out_allocatable_lawful : (h : Global) → IsLawful (heap_53_lent_final_out_allocatable h)
heap_53_lent_final_out_allocatable_lawful h = record { in_main = search; in_procedures = search; in_types = search }

heap_53_lent_final_out_allocatable_run : (h : Global) → heap_53_lent_final_out_allocatable_shows h
unfolding digits converted divided prints_bytes fitted run_of runs calls_of ◌>>=◌ gives fails stops beyond looks does asks
heap_53_lent_final_out_allocatable_run h = refl

heap_54_lent_final_out_object_lawful : (h : Global) → IsLawful (heap_54_lent_final_out_object h)
heap_54_lent_final_out_object_lawful h = record { in_main = search; in_procedures = search; in_types = search }

heap_54_lent_final_out_object_run : (h : Global) → heap_54_lent_final_out_object_shows h
unfolding digits converted divided prints_bytes fitted run_of runs calls_of ◌>>=◌ gives fails stops beyond looks does asks
heap_54_lent_final_out_object_run h = refl

hostile_02_name_63_lawful : (h : Global) → IsLawful (hostile_02_name_63 h)
hostile_02_name_63_lawful h = record { in_main = search; in_procedures = search; in_types = search }

hostile_02_name_63_run : (h : Global) → hostile_02_name_63_shows h
unfolding digits converted divided prints_bytes fitted run_of runs calls_of ◌>>=◌ gives fails stops beyond looks does asks
hostile_02_name_63_run h = refl

pub rows3_show : Rows3Show
rows3_show h = ((heap_40_lent_allocatable_dummy_deallocate_stat_lawful h, heap_40_lent_allocatable_dummy_deallocate_stat_run h), (heap_41_lent_allocatable_dummy_assign_shape_lawful h, heap_41_lent_allocatable_dummy_assign_shape_run h), (heap_42_lent_allocatable_dummy_assign_object_lawful h, heap_42_lent_allocatable_dummy_assign_object_run h), (heap_43_lent_allocatable_dummy_move_from_lawful h, heap_43_lent_allocatable_dummy_move_from_run h), (heap_44_lent_allocatable_dummy_move_to_lawful h, heap_44_lent_allocatable_dummy_move_to_run h), (heap_45_lent_allocatable_dummy_out_allocatable_lawful h, heap_45_lent_allocatable_dummy_out_allocatable_run h), (heap_46_lent_allocatable_dummy_out_object_lawful h, heap_46_lent_allocatable_dummy_out_object_run h), (heap_47_lent_final_deallocate_lawful h, heap_47_lent_final_deallocate_run h), (heap_48_lent_final_deallocate_stat_lawful h, heap_48_lent_final_deallocate_stat_run h), (heap_49_lent_final_assign_shape_lawful h, heap_49_lent_final_assign_shape_run h), (heap_50_lent_final_assign_object_lawful h, heap_50_lent_final_assign_object_run h), (heap_51_lent_final_move_from_lawful h, heap_51_lent_final_move_from_run h), (heap_52_lent_final_move_to_lawful h, heap_52_lent_final_move_to_run h), (heap_53_lent_final_out_allocatable_lawful h, heap_53_lent_final_out_allocatable_run h), (heap_54_lent_final_out_object_lawful h, heap_54_lent_final_out_object_run h), (hostile_02_name_63_lawful h, hostile_02_name_63_run h))
