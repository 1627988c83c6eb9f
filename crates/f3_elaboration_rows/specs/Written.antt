-- The programs of f3_meaning_rows are what their sources are elaborated to.
use Rattle.std.specs.declared.alloc.Global.{Global}
use Rattle.f3_meaning_rows.specs.Corners as inCorners
use Rattle.f3_meaning_rows.specs.More as inMore
use Rattle.f3_meaning_rows.specs.Others as inOthers
use Rattle.f3_meaning_rows.specs.Rows0 as inRows0
use Rattle.f3_meaning_rows.specs.Rows1 as inRows1
use Rattle.f3_meaning_rows.specs.Rows2 as inRows2
use Rattle.f3_meaning_rows.specs.Rows3 as inRows3
use Rattle.f3_meaning_rows.specs.Rows4 as inRows4
use Rattle.f3_meaning_rows.specs.Rows5 as inRows5
use Rattle.f3_meaning_rows.specs.Rows6 as inRows6
use Rattle.f3_meaning_rows.specs.Rows7 as inRows7
use Rattle.f3_meaning_rows.specs.Rows8 as inRows8
use Rattle.f3_meaning_rows.specs.Rows9 as inRows9
use Rattle.f3_elaboration_rows.specs.Meant0 as from0
use Rattle.f3_elaboration_rows.specs.Meant1 as from1
use Rattle.f3_elaboration_rows.specs.Meant2 as from2
use Rattle.f3_elaboration_rows.specs.Meant3 as from3
use Rattle.f3_elaboration_rows.specs.Meant4 as from4
use Rattle.f3_elaboration_rows.specs.Meant5 as from5
use Rattle.f3_elaboration_rows.specs.Meant6 as from6
use Rattle.f3_elaboration_rows.specs.Meant7 as from7
use Rattle.f3_elaboration_rows.specs.Meant8 as from8
use Rattle.f3_elaboration_rows.specs.Meant9 as from9
use Rattle.f3_elaboration_rows.specs.Meant10 as from10
use Rattle.f3_elaboration_rows.specs.Meant11 as from11
use Rattle.f3_elaboration_rows.specs.ByCases.{Same}

abbrev pub AreWritten : Type 0
AreWritten = (h : Global) →
    Same (inRows0.allocatable_01_deep_copy h) from0.allocatable_01_deep_copy_program
    × Same (inRows0.allocatable_02_scalar_value h) from0.allocatable_02_scalar_value_program
    × Same (inRows0.allocatable_02_stat h) from0.allocatable_02_stat_program
    × Same (inRows0.allocatable_02_too_large h) from0.allocatable_02_too_large_program
    × Same (inRows0.allocatable_03_assumed_shape h) from0.allocatable_03_assumed_shape_program
    × Same (inRows0.associate_01_lent h) from0.associate_01_lent_program
    × Same (inRows0.associate_01_selectors h) from0.associate_01_selectors_program
    × Same (inRows0.associate_03_return h) from0.associate_03_return_program
    × Same (inRows0.finalizer_01_frees_its_holder h) from0.finalizer_01_frees_its_holder_program
    × Same (inRows0.finalizer_02_order h) from0.finalizer_02_order_program
    × Same (inRows0.heap_01_stat_ample h) from0.heap_01_stat_ample_program
    × Same (inRows1.heap_08_lent_element_deallocate_stat h) from0.heap_08_lent_element_deallocate_stat_program
    × Same (inRows1.heap_14_lent_element_out_object h) from1.heap_14_lent_element_out_object_program
    × Same (inRows1.heap_20_lent_section_move_to h) from1.heap_20_lent_section_move_to_program
    × Same (inRows2.heap_26_lent_empty_section_assign_object h) from1.heap_26_lent_empty_section_assign_object_program
    × Same (inRows2.heap_32_lent_whole_array_deallocate_stat h) from1.heap_32_lent_whole_array_deallocate_stat_program
    × Same (inRows2.heap_38_lent_whole_array_out_object h) from1.heap_38_lent_whole_array_out_object_program
    × Same (inRows3.heap_44_lent_allocatable_dummy_move_to h) from1.heap_44_lent_allocatable_dummy_move_to_program
    × Same (inRows3.heap_50_lent_final_assign_object h) from1.heap_50_lent_final_assign_object_program
    × Same (inRows3.hostile_02_name_63 h) from1.hostile_02_name_63_program
    × Same (inRows4.hostile_03_do_64 h) from1.hostile_03_do_64_program
    × Same (inRows4.hostile_03_parentheses_64 h) from1.hostile_03_parentheses_64_program
    × Same (inRows4.kinds_01_wide h) from1.kinds_01_wide_program
    × Same (inRows4.kinds_02_mixed h) from1.kinds_02_mixed_program
    × Same (inRows4.kinds_06_do h) from2.kinds_06_do_program
    × Same (inRows4.machine_01_sections h) from2.machine_01_sections_program
    × Same (inRows4.machine_02_depth h) from2.machine_02_depth_program
    × Same (inRows4.modules_01_rename h) from2.modules_01_rename_program
    × Same (inRows4.modules_02_two_names h) from2.modules_02_two_names_program
    × Same (inRows4.sample_02_print h) from2.sample_02_print_program
    × Same (inRows4.sample_04_bump h) from2.sample_04_bump_program
    × Same (inRows4.sample_06_whole_object h) from2.sample_06_whole_object_program
    × Same (inRows4.sample_07_bounds h) from2.sample_07_bounds_program
    × Same (inRows4.sample_08_zero_extent h) from2.sample_08_zero_extent_program
    × Same (inRows4.sample_09_finals h) from2.sample_09_finals_program
    × Same (inRows4.sample_10_array_final h) from2.sample_10_array_final_program
    × Same (inRows5.sample_10_scalar_final h) from3.sample_10_scalar_final_program
    × Same (inRows5.sample_11_deallocate h) from3.sample_11_deallocate_program
    × Same (inRows5.sample_11_move_alloc h) from3.sample_11_move_alloc_program
    × Same (inRows5.sample_11_stat h) from3.sample_11_stat_program
    × Same (inRows5.sample_12_move_to_itself h) from3.sample_12_move_to_itself_program
    × Same (inRows5.sample_13_arithmetic h) from3.sample_13_arithmetic_program
    × Same (inRows5.sample_13_item_by_item h) from3.sample_13_item_by_item_program
    × Same (inRows5.sample_13_overflow h) from3.sample_13_overflow_program
    × Same (inRows5.sample_16_no_turns h) from3.sample_16_no_turns_program
    × Same (inRows5.sample_16_zero_step h) from3.sample_16_zero_step_program
    × Same (inRows5.sample_17_fresh_words h) from3.sample_17_fresh_words_program
    × Same (inRows5.sample_19_continuation h) from3.sample_19_continuation_program
    × Same (inRows5.sample_20_not_referred h) from4.sample_20_not_referred_program
    × Same (inRows5.sample_23_bounds h) from4.sample_23_bounds_program
    × Same (inRows5.sample_23_shapes h) from4.sample_23_shapes_program
    × Same (inRows5.choice_03_1 h) from4.choice_03_1_program
    × Same (inRows6.choice_06_1 h) from4.choice_06_1_program
    × Same (inRows6.choice_10_1 h) from4.choice_10_1_program
    × Same (inRows6.choice_12_1 h) from4.choice_12_1_program
    × Same (inRows6.choice_17_1 h) from4.choice_17_1_program
    × Same (inRows6.choice_19_2 h) from4.choice_19_2_program
    × Same (inRows6.choice_36_2 h) from4.choice_36_2_program
    × Same (inRows6.choice_46_1 h) from4.choice_46_1_program
    × Same (inRows6.choice_49_1 h) from4.choice_49_1_program
    × Same (inRows6.choice_50_1 h) from5.choice_50_1_program
    × Same (inRows6.choice_52_1 h) from5.choice_52_1_program
    × Same (inRows6.choice_52_2 h) from5.choice_52_2_program
    × Same (inRows6.choice_53_1 h) from5.choice_53_1_program
    × Same (inRows6.choice_54_1 h) from5.choice_54_1_program
    × Same (inRows6.choice_56_1 h) from5.choice_56_1_program
    × Same (inRows6.choice_57_1 h) from5.choice_57_1_program
    × Same (inRows6.choice_58_1 h) from5.choice_58_1_program
    × Same (inRows7.choice_59_1 h) from5.choice_59_1_program
    × Same (inRows7.choice_61_1 h) from5.choice_61_1_program
    × Same (inRows7.choice_62_1 h) from5.choice_62_1_program
    × Same (inRows7.choice_63_1 h) from5.choice_63_1_program
    × Same (inRows7.choice_64_1 h) from6.choice_64_1_program
    × Same (inRows7.choice_67_1 h) from6.choice_67_1_program
    × Same (inRows7.choice_79_1 h) from6.choice_79_1_program
    × Same (inRows7.scalar_02_print h) from6.scalar_02_print_program
    × Same (inRows7.text_02_variable_if h) from6.text_02_variable_if_program
    × Same (inRows7.usage_45_empty_statements h) from6.usage_45_empty_statements_program
    × Same (inRows7.usage_46_letter_case h) from6.usage_46_letter_case_program
    × Same (inRows7.usage_47_empty_print h) from6.usage_47_empty_print_program
    × Same (inRows7.usage_49_stop_plain h) from6.usage_49_stop_plain_program
    × Same (inRows7.usage_50_stop_7 h) from6.usage_50_stop_7_program
    × Same (inRows7.usage_51_stop_least_digits h) from6.usage_51_stop_least_digits_program
    × Same (inRows7.usage_52_stop_0 h) from6.usage_52_stop_0_program
    × Same (inRows8.usage_54_stop_in_procedure h) from7.usage_54_stop_in_procedure_program
    × Same (inRows8.usage_55_do_up h) from7.usage_55_do_up_program
    × Same (inRows8.usage_56_do_down h) from7.usage_56_do_down_program
    × Same (inRows8.usage_57_do_past_range h) from7.usage_57_do_past_range_program
    × Same (inRows8.usage_58_do_count_fixed h) from7.usage_58_do_count_fixed_program
    × Same (inRows8.usage_59_cycle_exit h) from7.usage_59_cycle_exit_program
    × Same (inRows8.usage_60_do_while h) from7.usage_60_do_while_program
    × Same (inRows8.usage_61_exit_inner h) from7.usage_61_exit_inner_program
    × Same (inRows8.usage_62_if_chain h) from7.usage_62_if_chain_program
    × Same (inRows8.usage_63_if_joined_words h) from7.usage_63_if_joined_words_program
    × Same (inRows8.usage_64_if_action_place h) from7.usage_64_if_action_place_program
    × Same (inRows8.usage_65_case_ranges h) from7.usage_65_case_ranges_program
    × Same (inRows8.usage_66_case_default_first h) from8.usage_66_case_default_first_program
    × Same (inRows8.usage_67_case_logical h) from8.usage_67_case_logical_program
    × Same (inRows8.usage_68_case_none h) from8.usage_68_case_none_program
    × Same (inRows8.usage_69_both_operands h) from8.usage_69_both_operands_program
    × Same (inRows9.usage_70_logical_items h) from8.usage_70_logical_items_program
    × Same (inRows9.usage_71_powers h) from8.usage_71_powers_program
    × Same (inRows9.usage_72_zero_to_minus_one h) from8.usage_72_zero_to_minus_one_program
    × Same (inRows9.usage_73_least_integer h) from8.usage_73_least_integer_program
    × Same (inRows9.usage_74_quotient_past_range h) from8.usage_74_quotient_past_range_program
    × Same (inRows9.usage_75_mod_modulo h) from8.usage_75_mod_modulo_program
    × Same (inRows9.usage_77_triplet_step_zero h) from8.usage_77_triplet_step_zero_program
    × Same (inRows9.usage_78_allocate_twice h) from8.usage_78_allocate_twice_program
    × Same (inRows9.usage_79_deallocate_nothing h) from9.usage_79_deallocate_nothing_program
    × Same (inRows9.usage_80_allocate_too_large h) from9.usage_80_allocate_too_large_program
    × Same (inOthers.refused_with_stat h) from9.refused_with_stat_program
    × Same (inOthers.not_refused h) from9.not_refused_program
    × Same (inOthers.refused_without_stat h) from9.refused_without_stat_program
    × Same (inOthers.three_turns h) from9.three_turns_program
    × Same (inOthers.no_room_to_start h) from9.no_room_to_start_program
    × Same (inOthers.no_room_for_a_call h) from9.no_room_for_a_call_program
    × Same (inOthers.depth_of_three h) from9.depth_of_three_program
    × Same (inOthers.no_room_for_a_copy h) from9.no_room_for_a_copy_program
    × Same (inCorners.corner_sections h) from9.corner_sections_program
    × Same (inCorners.corner_finals_of_sections h) from9.corner_finals_of_sections_program
    × Same (inCorners.corner_functions h) from10.corner_functions_program
    × Same (inCorners.corner_associates h) from10.corner_associates_program
    × Same (inCorners.corner_intent_out h) from10.corner_intent_out_program
    × Same (inCorners.corner_moves h) from10.corner_moves_program
    × Same (inCorners.corner_control h) from10.corner_control_program
    × Same (inCorners.corner_kinds h) from10.corner_kinds_program
    × Same (inCorners.corner_lent_objects h) from10.corner_lent_objects_program
    × Same (inCorners.corner_scalars h) from10.corner_scalars_program
    × Same (inMore.bounds_before_variable h) from11.bounds_before_variable_program
    × Same (inMore.step_before_bounds h) from11.step_before_bounds_program
    × Same (inMore.subscripts_before_contents h) from11.subscripts_before_contents_program
    × Same (inMore.associate_from_one h) from11.associate_from_one_program
