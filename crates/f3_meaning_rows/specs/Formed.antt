-- All programs of these rows make sense.
use Rattle.std.specs.declared.alloc.Global.{Global}
use Rattle.f3_meaning_whole.specs.Formed.{IsWellFormed}
use Rattle.f3_meaning_rows.specs.Rows0.{allocatable_01_deep_copy, allocatable_02_scalar_value, allocatable_02_stat, allocatable_02_too_large}
use Rattle.f3_meaning_rows.specs.Rows0.{allocatable_03_assumed_shape, associate_01_lent, associate_01_selectors, associate_03_return}
use Rattle.f3_meaning_rows.specs.Rows0.{finalizer_01_frees_its_holder, finalizer_02_order, heap_01_stat_ample, heap_04_other_shape}
use Rattle.f3_meaning_rows.specs.Rows0.{heap_04_same_shape, heap_05_dummy_itself, heap_06_held_value, heap_07_lent_element_deallocate}
use Rattle.f3_meaning_rows.specs.Rows1.{heap_08_lent_element_deallocate_stat, heap_09_lent_element_assign_shape, heap_10_lent_element_assign_object}
use Rattle.f3_meaning_rows.specs.Rows1.{heap_11_lent_element_move_from, heap_12_lent_element_move_to, heap_13_lent_element_out_allocatable}
use Rattle.f3_meaning_rows.specs.Rows1.{heap_14_lent_element_out_object, heap_15_lent_section_deallocate, heap_16_lent_section_deallocate_stat}
use Rattle.f3_meaning_rows.specs.Rows1.{heap_17_lent_section_assign_shape, heap_18_lent_section_assign_object, heap_19_lent_section_move_from}
use Rattle.f3_meaning_rows.specs.Rows1.{heap_20_lent_section_move_to, heap_21_lent_section_out_allocatable, heap_22_lent_section_out_object}
use Rattle.f3_meaning_rows.specs.Rows1.{heap_23_lent_empty_section_deallocate}
use Rattle.f3_meaning_rows.specs.Rows2.{heap_24_lent_empty_section_deallocate_stat, heap_25_lent_empty_section_assign_shape}
use Rattle.f3_meaning_rows.specs.Rows2.{heap_26_lent_empty_section_assign_object, heap_27_lent_empty_section_move_from}
use Rattle.f3_meaning_rows.specs.Rows2.{heap_28_lent_empty_section_move_to, heap_29_lent_empty_section_out_allocatable}
use Rattle.f3_meaning_rows.specs.Rows2.{heap_30_lent_empty_section_out_object, heap_31_lent_whole_array_deallocate}
use Rattle.f3_meaning_rows.specs.Rows2.{heap_32_lent_whole_array_deallocate_stat, heap_33_lent_whole_array_assign_shape}
use Rattle.f3_meaning_rows.specs.Rows2.{heap_34_lent_whole_array_assign_object, heap_35_lent_whole_array_move_from, heap_36_lent_whole_array_move_to}
use Rattle.f3_meaning_rows.specs.Rows2.{heap_37_lent_whole_array_out_allocatable, heap_38_lent_whole_array_out_object}
use Rattle.f3_meaning_rows.specs.Rows2.{heap_39_lent_allocatable_dummy_deallocate}
use Rattle.f3_meaning_rows.specs.Rows3.{heap_40_lent_allocatable_dummy_deallocate_stat, heap_41_lent_allocatable_dummy_assign_shape}
use Rattle.f3_meaning_rows.specs.Rows3.{heap_42_lent_allocatable_dummy_assign_object, heap_43_lent_allocatable_dummy_move_from}
use Rattle.f3_meaning_rows.specs.Rows3.{heap_44_lent_allocatable_dummy_move_to, heap_45_lent_allocatable_dummy_out_allocatable}
use Rattle.f3_meaning_rows.specs.Rows3.{heap_46_lent_allocatable_dummy_out_object, heap_47_lent_final_deallocate, heap_48_lent_final_deallocate_stat}
use Rattle.f3_meaning_rows.specs.Rows3.{heap_49_lent_final_assign_shape, heap_50_lent_final_assign_object, heap_51_lent_final_move_from}
use Rattle.f3_meaning_rows.specs.Rows3.{heap_52_lent_final_move_to, heap_53_lent_final_out_allocatable, heap_54_lent_final_out_object}
use Rattle.f3_meaning_rows.specs.Rows3.{hostile_02_name_63}
use Rattle.f3_meaning_rows.specs.Rows4.{hostile_03_do_64, hostile_03_parentheses_64, kinds_01_wide, kinds_02_mixed, kinds_06_do, machine_01_sections}
use Rattle.f3_meaning_rows.specs.Rows4.{machine_02_depth, modules_01_rename, modules_02_two_names, sample_02_print, sample_04_bump}
use Rattle.f3_meaning_rows.specs.Rows4.{sample_06_whole_object, sample_07_bounds, sample_08_zero_extent, sample_09_finals, sample_10_array_final}
use Rattle.f3_meaning_rows.specs.Rows5.{sample_10_scalar_final, sample_11_deallocate, sample_11_move_alloc, sample_11_stat, sample_12_move_to_itself}
use Rattle.f3_meaning_rows.specs.Rows5.{sample_13_arithmetic, sample_13_item_by_item, sample_13_overflow, sample_16_no_turns, sample_16_zero_step}
use Rattle.f3_meaning_rows.specs.Rows5.{sample_17_fresh_words, sample_19_continuation, sample_20_not_referred, sample_23_bounds, sample_23_shapes}
use Rattle.f3_meaning_rows.specs.Rows5.{choice_03_1}
use Rattle.f3_meaning_rows.specs.Rows6.{choice_06_1, choice_10_1, choice_12_1, choice_17_1, choice_19_2, choice_36_2, choice_46_1, choice_49_1}
use Rattle.f3_meaning_rows.specs.Rows6.{choice_50_1, choice_52_1, choice_52_2, choice_53_1, choice_54_1, choice_56_1, choice_57_1, choice_58_1}
use Rattle.f3_meaning_rows.specs.Rows7.{choice_59_1, choice_61_1, choice_62_1, choice_63_1, choice_64_1, choice_67_1, choice_79_1, scalar_02_print}
use Rattle.f3_meaning_rows.specs.Rows7.{text_02_variable_if, usage_45_empty_statements, usage_46_letter_case, usage_47_empty_print}
use Rattle.f3_meaning_rows.specs.Rows7.{usage_49_stop_plain, usage_50_stop_7, usage_51_stop_least_digits, usage_52_stop_0}
use Rattle.f3_meaning_rows.specs.Rows8.{usage_54_stop_in_procedure, usage_55_do_up, usage_56_do_down, usage_57_do_past_range, usage_58_do_count_fixed}
use Rattle.f3_meaning_rows.specs.Rows8.{usage_59_cycle_exit, usage_60_do_while, usage_61_exit_inner, usage_62_if_chain, usage_63_if_joined_words}
use Rattle.f3_meaning_rows.specs.Rows8.{usage_64_if_action_place, usage_65_case_ranges, usage_66_case_default_first, usage_67_case_logical}
use Rattle.f3_meaning_rows.specs.Rows8.{usage_68_case_none, usage_69_both_operands}
use Rattle.f3_meaning_rows.specs.Rows9.{usage_70_logical_items, usage_71_powers, usage_72_zero_to_minus_one, usage_73_least_integer}
use Rattle.f3_meaning_rows.specs.Rows9.{usage_74_quotient_past_range, usage_75_mod_modulo, usage_77_triplet_step_zero, usage_78_allocate_twice}
use Rattle.f3_meaning_rows.specs.Rows9.{usage_79_deallocate_nothing, usage_80_allocate_too_large}
use Rattle.f3_meaning_rows.specs.Others.{refused_with_stat, not_refused, refused_without_stat, three_turns, no_room_to_start, no_room_for_a_call}
use Rattle.f3_meaning_rows.specs.Others.{depth_of_three, no_room_for_a_copy, protected_elsewhere, protected_renamed, intent_in, protected_passed_on}
use Rattle.f3_meaning_rows.specs.Others.{private_component}
use Rattle.f3_meaning_rows.specs.Corners.{corner_sections, corner_finals_of_sections, corner_functions, corner_associates, corner_intent_out}
use Rattle.f3_meaning_rows.specs.Corners.{corner_moves, corner_control, corner_kinds, corner_lent_objects, corner_scalars}
use Rattle.f3_meaning_rows.specs.More.{stat_last, out_while_lent, held_is_not_final, move_lends, bounds_before_variable, shapes_before_destroying}
use Rattle.f3_meaning_rows.specs.More.{step_before_bounds, subscripts_before_contents, associate_from_one, locals_at_return, locals_at_end}
use Rattle.f3_meaning_rows.specs.More.{asked_for_objects, array_constructor, array_result, component_values, held_value, allocation_by_assignment}
use Rattle.f3_meaning_rows.specs.Told.{changing, staged, nested, forms, unlawful, prying}

abbrev pub AreWellFormed : Type 0
AreWellFormed = (h : Global) →
    IsWellFormed (allocatable_01_deep_copy h)
    × IsWellFormed (allocatable_02_scalar_value h)
    × IsWellFormed (allocatable_02_stat h)
    × IsWellFormed (allocatable_02_too_large h)
    × IsWellFormed (allocatable_03_assumed_shape h)
    × IsWellFormed (associate_01_lent h)
    × IsWellFormed (associate_01_selectors h)
    × IsWellFormed (associate_03_return h)
    × IsWellFormed (finalizer_01_frees_its_holder h)
    × IsWellFormed (finalizer_02_order h)
    × IsWellFormed (heap_01_stat_ample h)
    × IsWellFormed (heap_04_other_shape h)
    × IsWellFormed (heap_04_same_shape h)
    × IsWellFormed (heap_05_dummy_itself h)
    × IsWellFormed (heap_06_held_value h)
    × IsWellFormed (heap_07_lent_element_deallocate h)
    × IsWellFormed (heap_08_lent_element_deallocate_stat h)
    × IsWellFormed (heap_09_lent_element_assign_shape h)
    × IsWellFormed (heap_10_lent_element_assign_object h)
    × IsWellFormed (heap_11_lent_element_move_from h)
    × IsWellFormed (heap_12_lent_element_move_to h)
    × IsWellFormed (heap_13_lent_element_out_allocatable h)
    × IsWellFormed (heap_14_lent_element_out_object h)
    × IsWellFormed (heap_15_lent_section_deallocate h)
    × IsWellFormed (heap_16_lent_section_deallocate_stat h)
    × IsWellFormed (heap_17_lent_section_assign_shape h)
    × IsWellFormed (heap_18_lent_section_assign_object h)
    × IsWellFormed (heap_19_lent_section_move_from h)
    × IsWellFormed (heap_20_lent_section_move_to h)
    × IsWellFormed (heap_21_lent_section_out_allocatable h)
    × IsWellFormed (heap_22_lent_section_out_object h)
    × IsWellFormed (heap_23_lent_empty_section_deallocate h)
    × IsWellFormed (heap_24_lent_empty_section_deallocate_stat h)
    × IsWellFormed (heap_25_lent_empty_section_assign_shape h)
    × IsWellFormed (heap_26_lent_empty_section_assign_object h)
    × IsWellFormed (heap_27_lent_empty_section_move_from h)
    × IsWellFormed (heap_28_lent_empty_section_move_to h)
    × IsWellFormed (heap_29_lent_empty_section_out_allocatable h)
    × IsWellFormed (heap_30_lent_empty_section_out_object h)
    × IsWellFormed (heap_31_lent_whole_array_deallocate h)
    × IsWellFormed (heap_32_lent_whole_array_deallocate_stat h)
    × IsWellFormed (heap_33_lent_whole_array_assign_shape h)
    × IsWellFormed (heap_34_lent_whole_array_assign_object h)
    × IsWellFormed (heap_35_lent_whole_array_move_from h)
    × IsWellFormed (heap_36_lent_whole_array_move_to h)
    × IsWellFormed (heap_37_lent_whole_array_out_allocatable h)
    × IsWellFormed (heap_38_lent_whole_array_out_object h)
    × IsWellFormed (heap_39_lent_allocatable_dummy_deallocate h)
    × IsWellFormed (heap_40_lent_allocatable_dummy_deallocate_stat h)
    × IsWellFormed (heap_41_lent_allocatable_dummy_assign_shape h)
    × IsWellFormed (heap_42_lent_allocatable_dummy_assign_object h)
    × IsWellFormed (heap_43_lent_allocatable_dummy_move_from h)
    × IsWellFormed (heap_44_lent_allocatable_dummy_move_to h)
    × IsWellFormed (heap_45_lent_allocatable_dummy_out_allocatable h)
    × IsWellFormed (heap_46_lent_allocatable_dummy_out_object h)
    × IsWellFormed (heap_47_lent_final_deallocate h)
    × IsWellFormed (heap_48_lent_final_deallocate_stat h)
    × IsWellFormed (heap_49_lent_final_assign_shape h)
    × IsWellFormed (heap_50_lent_final_assign_object h)
    × IsWellFormed (heap_51_lent_final_move_from h)
    × IsWellFormed (heap_52_lent_final_move_to h)
    × IsWellFormed (heap_53_lent_final_out_allocatable h)
    × IsWellFormed (heap_54_lent_final_out_object h)
    × IsWellFormed (hostile_02_name_63 h)
    × IsWellFormed (hostile_03_do_64 h)
    × IsWellFormed (hostile_03_parentheses_64 h)
    × IsWellFormed (kinds_01_wide h)
    × IsWellFormed (kinds_02_mixed h)
    × IsWellFormed (kinds_06_do h)
    × IsWellFormed (machine_01_sections h)
    × IsWellFormed (machine_02_depth h)
    × IsWellFormed (modules_01_rename h)
    × IsWellFormed (modules_02_two_names h)
    × IsWellFormed (sample_02_print h)
    × IsWellFormed (sample_04_bump h)
    × IsWellFormed (sample_06_whole_object h)
    × IsWellFormed (sample_07_bounds h)
    × IsWellFormed (sample_08_zero_extent h)
    × IsWellFormed (sample_09_finals h)
    × IsWellFormed (sample_10_array_final h)
    × IsWellFormed (sample_10_scalar_final h)
    × IsWellFormed (sample_11_deallocate h)
    × IsWellFormed (sample_11_move_alloc h)
    × IsWellFormed (sample_11_stat h)
    × IsWellFormed (sample_12_move_to_itself h)
    × IsWellFormed (sample_13_arithmetic h)
    × IsWellFormed (sample_13_item_by_item h)
    × IsWellFormed (sample_13_overflow h)
    × IsWellFormed (sample_16_no_turns h)
    × IsWellFormed (sample_16_zero_step h)
    × IsWellFormed (sample_17_fresh_words h)
    × IsWellFormed (sample_19_continuation h)
    × IsWellFormed (sample_20_not_referred h)
    × IsWellFormed (sample_23_bounds h)
    × IsWellFormed (sample_23_shapes h)
    × IsWellFormed (choice_03_1 h)
    × IsWellFormed (choice_06_1 h)
    × IsWellFormed (choice_10_1 h)
    × IsWellFormed (choice_12_1 h)
    × IsWellFormed (choice_17_1 h)
    × IsWellFormed (choice_19_2 h)
    × IsWellFormed (choice_36_2 h)
    × IsWellFormed (choice_46_1 h)
    × IsWellFormed (choice_49_1 h)
    × IsWellFormed (choice_50_1 h)
    × IsWellFormed (choice_52_1 h)
    × IsWellFormed (choice_52_2 h)
    × IsWellFormed (choice_53_1 h)
    × IsWellFormed (choice_54_1 h)
    × IsWellFormed (choice_56_1 h)
    × IsWellFormed (choice_57_1 h)
    × IsWellFormed (choice_58_1 h)
    × IsWellFormed (choice_59_1 h)
    × IsWellFormed (choice_61_1 h)
    × IsWellFormed (choice_62_1 h)
    × IsWellFormed (choice_63_1 h)
    × IsWellFormed (choice_64_1 h)
    × IsWellFormed (choice_67_1 h)
    × IsWellFormed (choice_79_1 h)
    × IsWellFormed (scalar_02_print h)
    × IsWellFormed (text_02_variable_if h)
    × IsWellFormed (usage_45_empty_statements h)
    × IsWellFormed (usage_46_letter_case h)
    × IsWellFormed (usage_47_empty_print h)
    × IsWellFormed (usage_49_stop_plain h)
    × IsWellFormed (usage_50_stop_7 h)
    × IsWellFormed (usage_51_stop_least_digits h)
    × IsWellFormed (usage_52_stop_0 h)
    × IsWellFormed (usage_54_stop_in_procedure h)
    × IsWellFormed (usage_55_do_up h)
    × IsWellFormed (usage_56_do_down h)
    × IsWellFormed (usage_57_do_past_range h)
    × IsWellFormed (usage_58_do_count_fixed h)
    × IsWellFormed (usage_59_cycle_exit h)
    × IsWellFormed (usage_60_do_while h)
    × IsWellFormed (usage_61_exit_inner h)
    × IsWellFormed (usage_62_if_chain h)
    × IsWellFormed (usage_63_if_joined_words h)
    × IsWellFormed (usage_64_if_action_place h)
    × IsWellFormed (usage_65_case_ranges h)
    × IsWellFormed (usage_66_case_default_first h)
    × IsWellFormed (usage_67_case_logical h)
    × IsWellFormed (usage_68_case_none h)
    × IsWellFormed (usage_69_both_operands h)
    × IsWellFormed (usage_70_logical_items h)
    × IsWellFormed (usage_71_powers h)
    × IsWellFormed (usage_72_zero_to_minus_one h)
    × IsWellFormed (usage_73_least_integer h)
    × IsWellFormed (usage_74_quotient_past_range h)
    × IsWellFormed (usage_75_mod_modulo h)
    × IsWellFormed (usage_77_triplet_step_zero h)
    × IsWellFormed (usage_78_allocate_twice h)
    × IsWellFormed (usage_79_deallocate_nothing h)
    × IsWellFormed (usage_80_allocate_too_large h)
    × IsWellFormed (refused_with_stat h)
    × IsWellFormed (not_refused h)
    × IsWellFormed (refused_without_stat h)
    × IsWellFormed (three_turns h)
    × IsWellFormed (no_room_to_start h)
    × IsWellFormed (no_room_for_a_call h)
    × IsWellFormed (depth_of_three h)
    × IsWellFormed (no_room_for_a_copy h)
    × IsWellFormed (protected_elsewhere h)
    × IsWellFormed (protected_renamed h)
    × IsWellFormed (intent_in h)
    × IsWellFormed (protected_passed_on h)
    × IsWellFormed (private_component h)
    × IsWellFormed (corner_sections h)
    × IsWellFormed (corner_finals_of_sections h)
    × IsWellFormed (corner_functions h)
    × IsWellFormed (corner_associates h)
    × IsWellFormed (corner_intent_out h)
    × IsWellFormed (corner_moves h)
    × IsWellFormed (corner_control h)
    × IsWellFormed (corner_kinds h)
    × IsWellFormed (corner_lent_objects h)
    × IsWellFormed (corner_scalars h)
    × IsWellFormed (stat_last h)
    × IsWellFormed (out_while_lent h)
    × IsWellFormed (held_is_not_final h)
    × IsWellFormed (move_lends h)
    × IsWellFormed (bounds_before_variable h)
    × IsWellFormed (shapes_before_destroying h)
    × IsWellFormed (step_before_bounds h)
    × IsWellFormed (subscripts_before_contents h)
    × IsWellFormed (associate_from_one h)
    × IsWellFormed (locals_at_return h)
    × IsWellFormed (locals_at_end h)
    × IsWellFormed (asked_for_objects h)
    × IsWellFormed (array_constructor h)
    × IsWellFormed (array_result h)
    × IsWellFormed (component_values h)
    × IsWellFormed (held_value h)
    × IsWellFormed (allocation_by_assignment h)
    × IsWellFormed (changing h)
    × IsWellFormed (staged h)
    × IsWellFormed (nested h)
    × IsWellFormed (forms h)
    × IsWellFormed (unlawful h)
    × IsWellFormed (prying h)
