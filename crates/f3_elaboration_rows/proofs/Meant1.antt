use Rattle.std.specs.Prelude.{refl}
use Rattle.std.specs.Fmt.{digits}
use Rattle.std.specs.declared.alloc.Global.{Global}
use Rattle.f3_meaning_whole.specs.Ran.{◌>>=◌, gives, fails, stops, beyond, looks, does, asks, prints_bytes}
use Rattle.f3_meaning_whole.specs.Arithmetic.{converted, divided}
use Rattle.f3_meaning_whole.specs.Act.{fitted}
use Rattle.f3_meaning_whole.specs.Run.{calls_of, runs, run_of}
use Rattle.f3_elaboration_rows.specs.Meant1 as row

heap_14_lent_element_out_object_formed : (h : Global) → row.heap_14_lent_element_out_object_formed h
heap_14_lent_element_out_object_formed h = refl

heap_14_lent_element_out_object_shows : (h : Global) → row.heap_14_lent_element_out_object_shows h
unfolding digits converted divided prints_bytes fitted run_of runs calls_of ◌>>=◌ gives fails stops beyond looks does asks
heap_14_lent_element_out_object_shows h = refl

heap_20_lent_section_move_to_formed : (h : Global) → row.heap_20_lent_section_move_to_formed h
heap_20_lent_section_move_to_formed h = refl

heap_20_lent_section_move_to_shows : (h : Global) → row.heap_20_lent_section_move_to_shows h
unfolding digits converted divided prints_bytes fitted run_of runs calls_of ◌>>=◌ gives fails stops beyond looks does asks
heap_20_lent_section_move_to_shows h = refl

heap_26_lent_empty_section_assign_object_formed : (h : Global) → row.heap_26_lent_empty_section_assign_object_formed h
heap_26_lent_empty_section_assign_object_formed h = refl

heap_26_lent_empty_section_assign_object_shows : (h : Global) → row.heap_26_lent_empty_section_assign_object_shows h
unfolding digits converted divided prints_bytes fitted run_of runs calls_of ◌>>=◌ gives fails stops beyond looks does asks
heap_26_lent_empty_section_assign_object_shows h = refl

heap_32_lent_whole_array_deallocate_stat_formed : (h : Global) → row.heap_32_lent_whole_array_deallocate_stat_formed h
heap_32_lent_whole_array_deallocate_stat_formed h = refl

heap_32_lent_whole_array_deallocate_stat_shows : (h : Global) → row.heap_32_lent_whole_array_deallocate_stat_shows h
unfolding digits converted divided prints_bytes fitted run_of runs calls_of ◌>>=◌ gives fails stops beyond looks does asks
heap_32_lent_whole_array_deallocate_stat_shows h = refl

heap_38_lent_whole_array_out_object_formed : (h : Global) → row.heap_38_lent_whole_array_out_object_formed h
heap_38_lent_whole_array_out_object_formed h = refl

heap_38_lent_whole_array_out_object_shows : (h : Global) → row.heap_38_lent_whole_array_out_object_shows h
unfolding digits converted divided prints_bytes fitted run_of runs calls_of ◌>>=◌ gives fails stops beyond looks does asks
heap_38_lent_whole_array_out_object_shows h = refl

heap_44_lent_allocatable_dummy_move_to_formed : (h : Global) → row.heap_44_lent_allocatable_dummy_move_to_formed h
heap_44_lent_allocatable_dummy_move_to_formed h = refl

heap_44_lent_allocatable_dummy_move_to_shows : (h : Global) → row.heap_44_lent_allocatable_dummy_move_to_shows h
unfolding digits converted divided prints_bytes fitted run_of runs calls_of ◌>>=◌ gives fails stops beyond looks does asks
heap_44_lent_allocatable_dummy_move_to_shows h = refl

heap_50_lent_final_assign_object_formed : (h : Global) → row.heap_50_lent_final_assign_object_formed h
heap_50_lent_final_assign_object_formed h = refl

heap_50_lent_final_assign_object_shows : (h : Global) → row.heap_50_lent_final_assign_object_shows h
unfolding digits converted divided prints_bytes fitted run_of runs calls_of ◌>>=◌ gives fails stops beyond looks does asks
heap_50_lent_final_assign_object_shows h = refl

hostile_02_name_63_formed : (h : Global) → row.hostile_02_name_63_formed h
hostile_02_name_63_formed h = refl

hostile_02_name_63_shows : (h : Global) → row.hostile_02_name_63_shows h
unfolding digits converted divided prints_bytes fitted run_of runs calls_of ◌>>=◌ gives fails stops beyond looks does asks
hostile_02_name_63_shows h = refl

hostile_03_do_64_formed : (h : Global) → row.hostile_03_do_64_formed h
hostile_03_do_64_formed h = refl

hostile_03_do_64_shows : (h : Global) → row.hostile_03_do_64_shows h
unfolding digits converted divided prints_bytes fitted run_of runs calls_of ◌>>=◌ gives fails stops beyond looks does asks
hostile_03_do_64_shows h = refl

hostile_03_parentheses_64_formed : (h : Global) → row.hostile_03_parentheses_64_formed h
hostile_03_parentheses_64_formed h = refl

hostile_03_parentheses_64_shows : (h : Global) → row.hostile_03_parentheses_64_shows h
unfolding digits converted divided prints_bytes fitted run_of runs calls_of ◌>>=◌ gives fails stops beyond looks does asks
hostile_03_parentheses_64_shows h = refl

kinds_01_wide_formed : (h : Global) → row.kinds_01_wide_formed h
kinds_01_wide_formed h = refl

kinds_01_wide_shows : (h : Global) → row.kinds_01_wide_shows h
unfolding digits converted divided prints_bytes fitted run_of runs calls_of ◌>>=◌ gives fails stops beyond looks does asks
kinds_01_wide_shows h = refl

kinds_02_mixed_formed : (h : Global) → row.kinds_02_mixed_formed h
kinds_02_mixed_formed h = refl

kinds_02_mixed_shows : (h : Global) → row.kinds_02_mixed_shows h
unfolding digits converted divided prints_bytes fitted run_of runs calls_of ◌>>=◌ gives fails stops beyond looks does asks
kinds_02_mixed_shows h = refl

pub meant1_show : row.Meant1Show
meant1_show h = (
  heap_14_lent_element_out_object_formed h,
  heap_14_lent_element_out_object_shows h,
  heap_20_lent_section_move_to_formed h,
  heap_20_lent_section_move_to_shows h,
  heap_26_lent_empty_section_assign_object_formed h,
  heap_26_lent_empty_section_assign_object_shows h,
  heap_32_lent_whole_array_deallocate_stat_formed h,
  heap_32_lent_whole_array_deallocate_stat_shows h,
  heap_38_lent_whole_array_out_object_formed h,
  heap_38_lent_whole_array_out_object_shows h,
  heap_44_lent_allocatable_dummy_move_to_formed h,
  heap_44_lent_allocatable_dummy_move_to_shows h,
  heap_50_lent_final_assign_object_formed h,
  heap_50_lent_final_assign_object_shows h,
  hostile_02_name_63_formed h,
  hostile_02_name_63_shows h,
  hostile_03_do_64_formed h,
  hostile_03_do_64_shows h,
  hostile_03_parentheses_64_formed h,
  hostile_03_parentheses_64_shows h,
  kinds_01_wide_formed h,
  kinds_01_wide_shows h,
  kinds_02_mixed_formed h,
  kinds_02_mixed_shows h,
)
