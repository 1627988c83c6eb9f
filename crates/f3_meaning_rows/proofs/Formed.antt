use Rattle.std.specs.Prelude.{refl}
use Rattle.std.specs.declared.alloc.Global.{Global}
use Rattle.f3_meaning_whole.specs.Formed.{IsWellFormed}
use Rattle.f3_meaning_rows.specs.Formed.{AreWellFormed}
use Rattle.f3_meaning_rows.specs.Rows0.{allocatable_01_deep_copy, allocatable_02_scalar_value, allocatable_02_stat, allocatable_02_too_large, allocatable_03_assumed_shape, associate_01_lent, associate_01_selectors, associate_03_return, finalizer_01_frees_its_holder, finalizer_02_order, heap_01_stat_ample, heap_04_other_shape, heap_04_same_shape, heap_05_dummy_itself, heap_06_held_value, heap_07_lent_element_deallocate}
use Rattle.f3_meaning_rows.specs.Rows1.{heap_08_lent_element_deallocate_stat, heap_09_lent_element_assign_shape, heap_10_lent_element_assign_object, heap_11_lent_element_move_from, heap_12_lent_element_move_to, heap_13_lent_element_out_allocatable, heap_14_lent_element_out_object, heap_15_lent_section_deallocate, heap_16_lent_section_deallocate_stat, heap_17_lent_section_assign_shape, heap_18_lent_section_assign_object, heap_19_lent_section_move_from, heap_20_lent_section_move_to, heap_21_lent_section_out_allocatable, heap_22_lent_section_out_object, heap_23_lent_empty_section_deallocate}
use Rattle.f3_meaning_rows.specs.Rows2.{heap_24_lent_empty_section_deallocate_stat, heap_25_lent_empty_section_assign_shape, heap_26_lent_empty_section_assign_object, heap_27_lent_empty_section_move_from, heap_28_lent_empty_section_move_to, heap_29_lent_empty_section_out_allocatable, heap_30_lent_empty_section_out_object, heap_31_lent_whole_array_deallocate, heap_32_lent_whole_array_deallocate_stat, heap_33_lent_whole_array_assign_shape, heap_34_lent_whole_array_assign_object, heap_35_lent_whole_array_move_from, heap_36_lent_whole_array_move_to, heap_37_lent_whole_array_out_allocatable, heap_38_lent_whole_array_out_object, heap_39_lent_allocatable_dummy_deallocate}
use Rattle.f3_meaning_rows.specs.Rows3.{heap_40_lent_allocatable_dummy_deallocate_stat, heap_41_lent_allocatable_dummy_assign_shape, heap_42_lent_allocatable_dummy_assign_object, heap_43_lent_allocatable_dummy_move_from, heap_44_lent_allocatable_dummy_move_to, heap_45_lent_allocatable_dummy_out_allocatable, heap_46_lent_allocatable_dummy_out_object, heap_47_lent_final_deallocate, heap_48_lent_final_deallocate_stat, heap_49_lent_final_assign_shape, heap_50_lent_final_assign_object, heap_51_lent_final_move_from, heap_52_lent_final_move_to, heap_53_lent_final_out_allocatable, heap_54_lent_final_out_object, hostile_02_name_63}
use Rattle.f3_meaning_rows.specs.Rows4.{hostile_03_do_64, hostile_03_parentheses_64, kinds_01_wide, kinds_02_mixed, kinds_06_do, machine_01_sections, machine_02_depth, modules_01_rename, modules_02_two_names, sample_02_print, sample_04_bump, sample_06_whole_object, sample_07_bounds, sample_08_zero_extent, sample_09_finals, sample_10_array_final}
use Rattle.f3_meaning_rows.specs.Rows5.{sample_10_scalar_final, sample_11_deallocate, sample_11_move_alloc, sample_11_stat, sample_12_move_to_itself, sample_13_arithmetic, sample_13_item_by_item, sample_13_overflow, sample_16_no_turns, sample_16_zero_step, sample_17_fresh_words, sample_19_continuation, sample_20_not_referred, sample_23_bounds, sample_23_shapes, choice_03_1}
use Rattle.f3_meaning_rows.specs.Rows6.{choice_06_1, choice_10_1, choice_12_1, choice_17_1, choice_19_2, choice_36_2, choice_46_1, choice_49_1, choice_50_1, choice_52_1, choice_52_2, choice_53_1, choice_54_1, choice_56_1, choice_57_1, choice_58_1}
use Rattle.f3_meaning_rows.specs.Rows7.{choice_59_1, choice_61_1, choice_62_1, choice_63_1, choice_64_1, choice_67_1, choice_79_1, scalar_02_print, text_02_variable_if, usage_45_empty_statements, usage_46_letter_case, usage_47_empty_print, usage_49_stop_plain, usage_50_stop_7, usage_51_stop_least_digits, usage_52_stop_0}
use Rattle.f3_meaning_rows.specs.Rows8.{usage_54_stop_in_procedure, usage_55_do_up, usage_56_do_down, usage_57_do_past_range, usage_58_do_count_fixed, usage_59_cycle_exit, usage_60_do_while, usage_61_exit_inner, usage_62_if_chain, usage_63_if_joined_words, usage_64_if_action_place, usage_65_case_ranges, usage_66_case_default_first, usage_67_case_logical, usage_68_case_none, usage_69_both_operands}
use Rattle.f3_meaning_rows.specs.Rows9.{usage_70_logical_items, usage_71_powers, usage_72_zero_to_minus_one, usage_73_least_integer, usage_74_quotient_past_range, usage_75_mod_modulo, usage_77_triplet_step_zero, usage_78_allocate_twice, usage_79_deallocate_nothing, usage_80_allocate_too_large}
use Rattle.f3_meaning_rows.specs.Others.{refused_with_stat, not_refused, refused_without_stat, three_turns, no_room_to_start, no_room_for_a_call, depth_of_three, no_room_for_a_copy, protected_elsewhere, protected_renamed, intent_in, protected_passed_on, private_component}
use Rattle.f3_meaning_rows.specs.Corners.{corner_sections, corner_finals_of_sections, corner_functions, corner_associates, corner_intent_out, corner_moves, corner_control, corner_kinds, corner_lent_objects, corner_scalars}
use Rattle.f3_meaning_rows.specs.More.{stat_last, out_while_lent, held_is_not_final, move_lends, bounds_before_variable, shapes_before_destroying, step_before_bounds, subscripts_before_contents, associate_from_one, locals_at_return, locals_at_end, asked_for_objects, array_constructor, array_result, component_values, held_value, allocation_by_assignment}
use Rattle.f3_meaning_rows.specs.Told.{changing, staged, nested, forms, unlawful, prying}

allocatable_01_deep_copy_formed : (h : Global) → IsWellFormed (allocatable_01_deep_copy h)
allocatable_01_deep_copy_formed h = refl

allocatable_02_scalar_value_formed : (h : Global) → IsWellFormed (allocatable_02_scalar_value h)
allocatable_02_scalar_value_formed h = refl

allocatable_02_stat_formed : (h : Global) → IsWellFormed (allocatable_02_stat h)
allocatable_02_stat_formed h = refl

allocatable_02_too_large_formed : (h : Global) → IsWellFormed (allocatable_02_too_large h)
allocatable_02_too_large_formed h = refl

allocatable_03_assumed_shape_formed : (h : Global) → IsWellFormed (allocatable_03_assumed_shape h)
allocatable_03_assumed_shape_formed h = refl

associate_01_lent_formed : (h : Global) → IsWellFormed (associate_01_lent h)
associate_01_lent_formed h = refl

associate_01_selectors_formed : (h : Global) → IsWellFormed (associate_01_selectors h)
associate_01_selectors_formed h = refl

associate_03_return_formed : (h : Global) → IsWellFormed (associate_03_return h)
associate_03_return_formed h = refl

finalizer_01_frees_its_holder_formed : (h : Global) → IsWellFormed (finalizer_01_frees_its_holder h)
finalizer_01_frees_its_holder_formed h = refl

finalizer_02_order_formed : (h : Global) → IsWellFormed (finalizer_02_order h)
finalizer_02_order_formed h = refl

heap_01_stat_ample_formed : (h : Global) → IsWellFormed (heap_01_stat_ample h)
heap_01_stat_ample_formed h = refl

heap_04_other_shape_formed : (h : Global) → IsWellFormed (heap_04_other_shape h)
heap_04_other_shape_formed h = refl

heap_04_same_shape_formed : (h : Global) → IsWellFormed (heap_04_same_shape h)
heap_04_same_shape_formed h = refl

heap_05_dummy_itself_formed : (h : Global) → IsWellFormed (heap_05_dummy_itself h)
heap_05_dummy_itself_formed h = refl

heap_06_held_value_formed : (h : Global) → IsWellFormed (heap_06_held_value h)
heap_06_held_value_formed h = refl

heap_07_lent_element_deallocate_formed : (h : Global) → IsWellFormed (heap_07_lent_element_deallocate h)
heap_07_lent_element_deallocate_formed h = refl

heap_08_lent_element_deallocate_stat_formed : (h : Global) → IsWellFormed (heap_08_lent_element_deallocate_stat h)
heap_08_lent_element_deallocate_stat_formed h = refl

heap_09_lent_element_assign_shape_formed : (h : Global) → IsWellFormed (heap_09_lent_element_assign_shape h)
heap_09_lent_element_assign_shape_formed h = refl

heap_10_lent_element_assign_object_formed : (h : Global) → IsWellFormed (heap_10_lent_element_assign_object h)
heap_10_lent_element_assign_object_formed h = refl

heap_11_lent_element_move_from_formed : (h : Global) → IsWellFormed (heap_11_lent_element_move_from h)
heap_11_lent_element_move_from_formed h = refl

heap_12_lent_element_move_to_formed : (h : Global) → IsWellFormed (heap_12_lent_element_move_to h)
heap_12_lent_element_move_to_formed h = refl

heap_13_lent_element_out_allocatable_formed : (h : Global) → IsWellFormed (heap_13_lent_element_out_allocatable h)
heap_13_lent_element_out_allocatable_formed h = refl

heap_14_lent_element_out_object_formed : (h : Global) → IsWellFormed (heap_14_lent_element_out_object h)
heap_14_lent_element_out_object_formed h = refl

heap_15_lent_section_deallocate_formed : (h : Global) → IsWellFormed (heap_15_lent_section_deallocate h)
heap_15_lent_section_deallocate_formed h = refl

heap_16_lent_section_deallocate_stat_formed : (h : Global) → IsWellFormed (heap_16_lent_section_deallocate_stat h)
heap_16_lent_section_deallocate_stat_formed h = refl

heap_17_lent_section_assign_shape_formed : (h : Global) → IsWellFormed (heap_17_lent_section_assign_shape h)
heap_17_lent_section_assign_shape_formed h = refl

heap_18_lent_section_assign_object_formed : (h : Global) → IsWellFormed (heap_18_lent_section_assign_object h)
heap_18_lent_section_assign_object_formed h = refl

heap_19_lent_section_move_from_formed : (h : Global) → IsWellFormed (heap_19_lent_section_move_from h)
heap_19_lent_section_move_from_formed h = refl

heap_20_lent_section_move_to_formed : (h : Global) → IsWellFormed (heap_20_lent_section_move_to h)
heap_20_lent_section_move_to_formed h = refl

heap_21_lent_section_out_allocatable_formed : (h : Global) → IsWellFormed (heap_21_lent_section_out_allocatable h)
heap_21_lent_section_out_allocatable_formed h = refl

heap_22_lent_section_out_object_formed : (h : Global) → IsWellFormed (heap_22_lent_section_out_object h)
heap_22_lent_section_out_object_formed h = refl

heap_23_lent_empty_section_deallocate_formed : (h : Global) → IsWellFormed (heap_23_lent_empty_section_deallocate h)
heap_23_lent_empty_section_deallocate_formed h = refl

heap_24_lent_empty_section_deallocate_stat_formed : (h : Global) → IsWellFormed (heap_24_lent_empty_section_deallocate_stat h)
heap_24_lent_empty_section_deallocate_stat_formed h = refl

heap_25_lent_empty_section_assign_shape_formed : (h : Global) → IsWellFormed (heap_25_lent_empty_section_assign_shape h)
heap_25_lent_empty_section_assign_shape_formed h = refl

heap_26_lent_empty_section_assign_object_formed : (h : Global) → IsWellFormed (heap_26_lent_empty_section_assign_object h)
heap_26_lent_empty_section_assign_object_formed h = refl

heap_27_lent_empty_section_move_from_formed : (h : Global) → IsWellFormed (heap_27_lent_empty_section_move_from h)
heap_27_lent_empty_section_move_from_formed h = refl

heap_28_lent_empty_section_move_to_formed : (h : Global) → IsWellFormed (heap_28_lent_empty_section_move_to h)
heap_28_lent_empty_section_move_to_formed h = refl

heap_29_lent_empty_section_out_allocatable_formed : (h : Global) → IsWellFormed (heap_29_lent_empty_section_out_allocatable h)
heap_29_lent_empty_section_out_allocatable_formed h = refl

heap_30_lent_empty_section_out_object_formed : (h : Global) → IsWellFormed (heap_30_lent_empty_section_out_object h)
heap_30_lent_empty_section_out_object_formed h = refl

heap_31_lent_whole_array_deallocate_formed : (h : Global) → IsWellFormed (heap_31_lent_whole_array_deallocate h)
heap_31_lent_whole_array_deallocate_formed h = refl

heap_32_lent_whole_array_deallocate_stat_formed : (h : Global) → IsWellFormed (heap_32_lent_whole_array_deallocate_stat h)
heap_32_lent_whole_array_deallocate_stat_formed h = refl

heap_33_lent_whole_array_assign_shape_formed : (h : Global) → IsWellFormed (heap_33_lent_whole_array_assign_shape h)
heap_33_lent_whole_array_assign_shape_formed h = refl

heap_34_lent_whole_array_assign_object_formed : (h : Global) → IsWellFormed (heap_34_lent_whole_array_assign_object h)
heap_34_lent_whole_array_assign_object_formed h = refl

heap_35_lent_whole_array_move_from_formed : (h : Global) → IsWellFormed (heap_35_lent_whole_array_move_from h)
heap_35_lent_whole_array_move_from_formed h = refl

heap_36_lent_whole_array_move_to_formed : (h : Global) → IsWellFormed (heap_36_lent_whole_array_move_to h)
heap_36_lent_whole_array_move_to_formed h = refl

heap_37_lent_whole_array_out_allocatable_formed : (h : Global) → IsWellFormed (heap_37_lent_whole_array_out_allocatable h)
heap_37_lent_whole_array_out_allocatable_formed h = refl

heap_38_lent_whole_array_out_object_formed : (h : Global) → IsWellFormed (heap_38_lent_whole_array_out_object h)
heap_38_lent_whole_array_out_object_formed h = refl

heap_39_lent_allocatable_dummy_deallocate_formed : (h : Global) → IsWellFormed (heap_39_lent_allocatable_dummy_deallocate h)
heap_39_lent_allocatable_dummy_deallocate_formed h = refl

heap_40_lent_allocatable_dummy_deallocate_stat_formed : (h : Global) → IsWellFormed (heap_40_lent_allocatable_dummy_deallocate_stat h)
heap_40_lent_allocatable_dummy_deallocate_stat_formed h = refl

heap_41_lent_allocatable_dummy_assign_shape_formed : (h : Global) → IsWellFormed (heap_41_lent_allocatable_dummy_assign_shape h)
heap_41_lent_allocatable_dummy_assign_shape_formed h = refl

heap_42_lent_allocatable_dummy_assign_object_formed : (h : Global) → IsWellFormed (heap_42_lent_allocatable_dummy_assign_object h)
heap_42_lent_allocatable_dummy_assign_object_formed h = refl

heap_43_lent_allocatable_dummy_move_from_formed : (h : Global) → IsWellFormed (heap_43_lent_allocatable_dummy_move_from h)
heap_43_lent_allocatable_dummy_move_from_formed h = refl

heap_44_lent_allocatable_dummy_move_to_formed : (h : Global) → IsWellFormed (heap_44_lent_allocatable_dummy_move_to h)
heap_44_lent_allocatable_dummy_move_to_formed h = refl

heap_45_lent_allocatable_dummy_out_allocatable_formed : (h : Global) → IsWellFormed (heap_45_lent_allocatable_dummy_out_allocatable h)
heap_45_lent_allocatable_dummy_out_allocatable_formed h = refl

heap_46_lent_allocatable_dummy_out_object_formed : (h : Global) → IsWellFormed (heap_46_lent_allocatable_dummy_out_object h)
heap_46_lent_allocatable_dummy_out_object_formed h = refl

heap_47_lent_final_deallocate_formed : (h : Global) → IsWellFormed (heap_47_lent_final_deallocate h)
heap_47_lent_final_deallocate_formed h = refl

heap_48_lent_final_deallocate_stat_formed : (h : Global) → IsWellFormed (heap_48_lent_final_deallocate_stat h)
heap_48_lent_final_deallocate_stat_formed h = refl

heap_49_lent_final_assign_shape_formed : (h : Global) → IsWellFormed (heap_49_lent_final_assign_shape h)
heap_49_lent_final_assign_shape_formed h = refl

heap_50_lent_final_assign_object_formed : (h : Global) → IsWellFormed (heap_50_lent_final_assign_object h)
heap_50_lent_final_assign_object_formed h = refl

heap_51_lent_final_move_from_formed : (h : Global) → IsWellFormed (heap_51_lent_final_move_from h)
heap_51_lent_final_move_from_formed h = refl

heap_52_lent_final_move_to_formed : (h : Global) → IsWellFormed (heap_52_lent_final_move_to h)
heap_52_lent_final_move_to_formed h = refl

heap_53_lent_final_out_allocatable_formed : (h : Global) → IsWellFormed (heap_53_lent_final_out_allocatable h)
heap_53_lent_final_out_allocatable_formed h = refl

heap_54_lent_final_out_object_formed : (h : Global) → IsWellFormed (heap_54_lent_final_out_object h)
heap_54_lent_final_out_object_formed h = refl

hostile_02_name_63_formed : (h : Global) → IsWellFormed (hostile_02_name_63 h)
hostile_02_name_63_formed h = refl

hostile_03_do_64_formed : (h : Global) → IsWellFormed (hostile_03_do_64 h)
hostile_03_do_64_formed h = refl

hostile_03_parentheses_64_formed : (h : Global) → IsWellFormed (hostile_03_parentheses_64 h)
hostile_03_parentheses_64_formed h = refl

kinds_01_wide_formed : (h : Global) → IsWellFormed (kinds_01_wide h)
kinds_01_wide_formed h = refl

kinds_02_mixed_formed : (h : Global) → IsWellFormed (kinds_02_mixed h)
kinds_02_mixed_formed h = refl

kinds_06_do_formed : (h : Global) → IsWellFormed (kinds_06_do h)
kinds_06_do_formed h = refl

machine_01_sections_formed : (h : Global) → IsWellFormed (machine_01_sections h)
machine_01_sections_formed h = refl

machine_02_depth_formed : (h : Global) → IsWellFormed (machine_02_depth h)
machine_02_depth_formed h = refl

modules_01_rename_formed : (h : Global) → IsWellFormed (modules_01_rename h)
modules_01_rename_formed h = refl

modules_02_two_names_formed : (h : Global) → IsWellFormed (modules_02_two_names h)
modules_02_two_names_formed h = refl

sample_02_print_formed : (h : Global) → IsWellFormed (sample_02_print h)
sample_02_print_formed h = refl

sample_04_bump_formed : (h : Global) → IsWellFormed (sample_04_bump h)
sample_04_bump_formed h = refl

sample_06_whole_object_formed : (h : Global) → IsWellFormed (sample_06_whole_object h)
sample_06_whole_object_formed h = refl

sample_07_bounds_formed : (h : Global) → IsWellFormed (sample_07_bounds h)
sample_07_bounds_formed h = refl

sample_08_zero_extent_formed : (h : Global) → IsWellFormed (sample_08_zero_extent h)
sample_08_zero_extent_formed h = refl

sample_09_finals_formed : (h : Global) → IsWellFormed (sample_09_finals h)
sample_09_finals_formed h = refl

sample_10_array_final_formed : (h : Global) → IsWellFormed (sample_10_array_final h)
sample_10_array_final_formed h = refl

sample_10_scalar_final_formed : (h : Global) → IsWellFormed (sample_10_scalar_final h)
sample_10_scalar_final_formed h = refl

sample_11_deallocate_formed : (h : Global) → IsWellFormed (sample_11_deallocate h)
sample_11_deallocate_formed h = refl

sample_11_move_alloc_formed : (h : Global) → IsWellFormed (sample_11_move_alloc h)
sample_11_move_alloc_formed h = refl

sample_11_stat_formed : (h : Global) → IsWellFormed (sample_11_stat h)
sample_11_stat_formed h = refl

sample_12_move_to_itself_formed : (h : Global) → IsWellFormed (sample_12_move_to_itself h)
sample_12_move_to_itself_formed h = refl

sample_13_arithmetic_formed : (h : Global) → IsWellFormed (sample_13_arithmetic h)
sample_13_arithmetic_formed h = refl

sample_13_item_by_item_formed : (h : Global) → IsWellFormed (sample_13_item_by_item h)
sample_13_item_by_item_formed h = refl

sample_13_overflow_formed : (h : Global) → IsWellFormed (sample_13_overflow h)
sample_13_overflow_formed h = refl

sample_16_no_turns_formed : (h : Global) → IsWellFormed (sample_16_no_turns h)
sample_16_no_turns_formed h = refl

sample_16_zero_step_formed : (h : Global) → IsWellFormed (sample_16_zero_step h)
sample_16_zero_step_formed h = refl

sample_17_fresh_words_formed : (h : Global) → IsWellFormed (sample_17_fresh_words h)
sample_17_fresh_words_formed h = refl

sample_19_continuation_formed : (h : Global) → IsWellFormed (sample_19_continuation h)
sample_19_continuation_formed h = refl

sample_20_not_referred_formed : (h : Global) → IsWellFormed (sample_20_not_referred h)
sample_20_not_referred_formed h = refl

sample_23_bounds_formed : (h : Global) → IsWellFormed (sample_23_bounds h)
sample_23_bounds_formed h = refl

sample_23_shapes_formed : (h : Global) → IsWellFormed (sample_23_shapes h)
sample_23_shapes_formed h = refl

choice_03_1_formed : (h : Global) → IsWellFormed (choice_03_1 h)
choice_03_1_formed h = refl

choice_06_1_formed : (h : Global) → IsWellFormed (choice_06_1 h)
choice_06_1_formed h = refl

choice_10_1_formed : (h : Global) → IsWellFormed (choice_10_1 h)
choice_10_1_formed h = refl

choice_12_1_formed : (h : Global) → IsWellFormed (choice_12_1 h)
choice_12_1_formed h = refl

choice_17_1_formed : (h : Global) → IsWellFormed (choice_17_1 h)
choice_17_1_formed h = refl

choice_19_2_formed : (h : Global) → IsWellFormed (choice_19_2 h)
choice_19_2_formed h = refl

choice_36_2_formed : (h : Global) → IsWellFormed (choice_36_2 h)
choice_36_2_formed h = refl

choice_46_1_formed : (h : Global) → IsWellFormed (choice_46_1 h)
choice_46_1_formed h = refl

choice_49_1_formed : (h : Global) → IsWellFormed (choice_49_1 h)
choice_49_1_formed h = refl

choice_50_1_formed : (h : Global) → IsWellFormed (choice_50_1 h)
choice_50_1_formed h = refl

choice_52_1_formed : (h : Global) → IsWellFormed (choice_52_1 h)
choice_52_1_formed h = refl

choice_52_2_formed : (h : Global) → IsWellFormed (choice_52_2 h)
choice_52_2_formed h = refl

choice_53_1_formed : (h : Global) → IsWellFormed (choice_53_1 h)
choice_53_1_formed h = refl

choice_54_1_formed : (h : Global) → IsWellFormed (choice_54_1 h)
choice_54_1_formed h = refl

choice_56_1_formed : (h : Global) → IsWellFormed (choice_56_1 h)
choice_56_1_formed h = refl

choice_57_1_formed : (h : Global) → IsWellFormed (choice_57_1 h)
choice_57_1_formed h = refl

choice_58_1_formed : (h : Global) → IsWellFormed (choice_58_1 h)
choice_58_1_formed h = refl

choice_59_1_formed : (h : Global) → IsWellFormed (choice_59_1 h)
choice_59_1_formed h = refl

choice_61_1_formed : (h : Global) → IsWellFormed (choice_61_1 h)
choice_61_1_formed h = refl

choice_62_1_formed : (h : Global) → IsWellFormed (choice_62_1 h)
choice_62_1_formed h = refl

choice_63_1_formed : (h : Global) → IsWellFormed (choice_63_1 h)
choice_63_1_formed h = refl

choice_64_1_formed : (h : Global) → IsWellFormed (choice_64_1 h)
choice_64_1_formed h = refl

choice_67_1_formed : (h : Global) → IsWellFormed (choice_67_1 h)
choice_67_1_formed h = refl

choice_79_1_formed : (h : Global) → IsWellFormed (choice_79_1 h)
choice_79_1_formed h = refl

scalar_02_print_formed : (h : Global) → IsWellFormed (scalar_02_print h)
scalar_02_print_formed h = refl

text_02_variable_if_formed : (h : Global) → IsWellFormed (text_02_variable_if h)
text_02_variable_if_formed h = refl

usage_45_empty_statements_formed : (h : Global) → IsWellFormed (usage_45_empty_statements h)
usage_45_empty_statements_formed h = refl

usage_46_letter_case_formed : (h : Global) → IsWellFormed (usage_46_letter_case h)
usage_46_letter_case_formed h = refl

usage_47_empty_print_formed : (h : Global) → IsWellFormed (usage_47_empty_print h)
usage_47_empty_print_formed h = refl

usage_49_stop_plain_formed : (h : Global) → IsWellFormed (usage_49_stop_plain h)
usage_49_stop_plain_formed h = refl

usage_50_stop_7_formed : (h : Global) → IsWellFormed (usage_50_stop_7 h)
usage_50_stop_7_formed h = refl

usage_51_stop_least_digits_formed : (h : Global) → IsWellFormed (usage_51_stop_least_digits h)
usage_51_stop_least_digits_formed h = refl

usage_52_stop_0_formed : (h : Global) → IsWellFormed (usage_52_stop_0 h)
usage_52_stop_0_formed h = refl

usage_54_stop_in_procedure_formed : (h : Global) → IsWellFormed (usage_54_stop_in_procedure h)
usage_54_stop_in_procedure_formed h = refl

usage_55_do_up_formed : (h : Global) → IsWellFormed (usage_55_do_up h)
usage_55_do_up_formed h = refl

usage_56_do_down_formed : (h : Global) → IsWellFormed (usage_56_do_down h)
usage_56_do_down_formed h = refl

usage_57_do_past_range_formed : (h : Global) → IsWellFormed (usage_57_do_past_range h)
usage_57_do_past_range_formed h = refl

usage_58_do_count_fixed_formed : (h : Global) → IsWellFormed (usage_58_do_count_fixed h)
usage_58_do_count_fixed_formed h = refl

usage_59_cycle_exit_formed : (h : Global) → IsWellFormed (usage_59_cycle_exit h)
usage_59_cycle_exit_formed h = refl

usage_60_do_while_formed : (h : Global) → IsWellFormed (usage_60_do_while h)
usage_60_do_while_formed h = refl

usage_61_exit_inner_formed : (h : Global) → IsWellFormed (usage_61_exit_inner h)
usage_61_exit_inner_formed h = refl

usage_62_if_chain_formed : (h : Global) → IsWellFormed (usage_62_if_chain h)
usage_62_if_chain_formed h = refl

usage_63_if_joined_words_formed : (h : Global) → IsWellFormed (usage_63_if_joined_words h)
usage_63_if_joined_words_formed h = refl

usage_64_if_action_place_formed : (h : Global) → IsWellFormed (usage_64_if_action_place h)
usage_64_if_action_place_formed h = refl

usage_65_case_ranges_formed : (h : Global) → IsWellFormed (usage_65_case_ranges h)
usage_65_case_ranges_formed h = refl

usage_66_case_default_first_formed : (h : Global) → IsWellFormed (usage_66_case_default_first h)
usage_66_case_default_first_formed h = refl

usage_67_case_logical_formed : (h : Global) → IsWellFormed (usage_67_case_logical h)
usage_67_case_logical_formed h = refl

usage_68_case_none_formed : (h : Global) → IsWellFormed (usage_68_case_none h)
usage_68_case_none_formed h = refl

usage_69_both_operands_formed : (h : Global) → IsWellFormed (usage_69_both_operands h)
usage_69_both_operands_formed h = refl

usage_70_logical_items_formed : (h : Global) → IsWellFormed (usage_70_logical_items h)
usage_70_logical_items_formed h = refl

usage_71_powers_formed : (h : Global) → IsWellFormed (usage_71_powers h)
usage_71_powers_formed h = refl

usage_72_zero_to_minus_one_formed : (h : Global) → IsWellFormed (usage_72_zero_to_minus_one h)
usage_72_zero_to_minus_one_formed h = refl

usage_73_least_integer_formed : (h : Global) → IsWellFormed (usage_73_least_integer h)
usage_73_least_integer_formed h = refl

usage_74_quotient_past_range_formed : (h : Global) → IsWellFormed (usage_74_quotient_past_range h)
usage_74_quotient_past_range_formed h = refl

usage_75_mod_modulo_formed : (h : Global) → IsWellFormed (usage_75_mod_modulo h)
usage_75_mod_modulo_formed h = refl

usage_77_triplet_step_zero_formed : (h : Global) → IsWellFormed (usage_77_triplet_step_zero h)
usage_77_triplet_step_zero_formed h = refl

usage_78_allocate_twice_formed : (h : Global) → IsWellFormed (usage_78_allocate_twice h)
usage_78_allocate_twice_formed h = refl

usage_79_deallocate_nothing_formed : (h : Global) → IsWellFormed (usage_79_deallocate_nothing h)
usage_79_deallocate_nothing_formed h = refl

usage_80_allocate_too_large_formed : (h : Global) → IsWellFormed (usage_80_allocate_too_large h)
usage_80_allocate_too_large_formed h = refl

refused_with_stat_formed : (h : Global) → IsWellFormed (refused_with_stat h)
refused_with_stat_formed h = refl

not_refused_formed : (h : Global) → IsWellFormed (not_refused h)
not_refused_formed h = refl

refused_without_stat_formed : (h : Global) → IsWellFormed (refused_without_stat h)
refused_without_stat_formed h = refl

three_turns_formed : (h : Global) → IsWellFormed (three_turns h)
three_turns_formed h = refl

no_room_to_start_formed : (h : Global) → IsWellFormed (no_room_to_start h)
no_room_to_start_formed h = refl

no_room_for_a_call_formed : (h : Global) → IsWellFormed (no_room_for_a_call h)
no_room_for_a_call_formed h = refl

depth_of_three_formed : (h : Global) → IsWellFormed (depth_of_three h)
depth_of_three_formed h = refl

no_room_for_a_copy_formed : (h : Global) → IsWellFormed (no_room_for_a_copy h)
no_room_for_a_copy_formed h = refl

protected_elsewhere_formed : (h : Global) → IsWellFormed (protected_elsewhere h)
protected_elsewhere_formed h = refl

protected_renamed_formed : (h : Global) → IsWellFormed (protected_renamed h)
protected_renamed_formed h = refl

intent_in_formed : (h : Global) → IsWellFormed (intent_in h)
intent_in_formed h = refl

protected_passed_on_formed : (h : Global) → IsWellFormed (protected_passed_on h)
protected_passed_on_formed h = refl

private_component_formed : (h : Global) → IsWellFormed (private_component h)
private_component_formed h = refl

corner_sections_formed : (h : Global) → IsWellFormed (corner_sections h)
corner_sections_formed h = refl

corner_finals_of_sections_formed : (h : Global) → IsWellFormed (corner_finals_of_sections h)
corner_finals_of_sections_formed h = refl

corner_functions_formed : (h : Global) → IsWellFormed (corner_functions h)
corner_functions_formed h = refl

corner_associates_formed : (h : Global) → IsWellFormed (corner_associates h)
corner_associates_formed h = refl

corner_intent_out_formed : (h : Global) → IsWellFormed (corner_intent_out h)
corner_intent_out_formed h = refl

corner_moves_formed : (h : Global) → IsWellFormed (corner_moves h)
corner_moves_formed h = refl

corner_control_formed : (h : Global) → IsWellFormed (corner_control h)
corner_control_formed h = refl

corner_kinds_formed : (h : Global) → IsWellFormed (corner_kinds h)
corner_kinds_formed h = refl

corner_lent_objects_formed : (h : Global) → IsWellFormed (corner_lent_objects h)
corner_lent_objects_formed h = refl

corner_scalars_formed : (h : Global) → IsWellFormed (corner_scalars h)
corner_scalars_formed h = refl

stat_last_formed : (h : Global) → IsWellFormed (stat_last h)
stat_last_formed h = refl

out_while_lent_formed : (h : Global) → IsWellFormed (out_while_lent h)
out_while_lent_formed h = refl

held_is_not_final_formed : (h : Global) → IsWellFormed (held_is_not_final h)
held_is_not_final_formed h = refl

move_lends_formed : (h : Global) → IsWellFormed (move_lends h)
move_lends_formed h = refl

bounds_before_variable_formed : (h : Global) → IsWellFormed (bounds_before_variable h)
bounds_before_variable_formed h = refl

shapes_before_destroying_formed : (h : Global) → IsWellFormed (shapes_before_destroying h)
shapes_before_destroying_formed h = refl

step_before_bounds_formed : (h : Global) → IsWellFormed (step_before_bounds h)
step_before_bounds_formed h = refl

subscripts_before_contents_formed : (h : Global) → IsWellFormed (subscripts_before_contents h)
subscripts_before_contents_formed h = refl

associate_from_one_formed : (h : Global) → IsWellFormed (associate_from_one h)
associate_from_one_formed h = refl

locals_at_return_formed : (h : Global) → IsWellFormed (locals_at_return h)
locals_at_return_formed h = refl

locals_at_end_formed : (h : Global) → IsWellFormed (locals_at_end h)
locals_at_end_formed h = refl

asked_for_objects_formed : (h : Global) → IsWellFormed (asked_for_objects h)
asked_for_objects_formed h = refl

array_constructor_formed : (h : Global) → IsWellFormed (array_constructor h)
array_constructor_formed h = refl

array_result_formed : (h : Global) → IsWellFormed (array_result h)
array_result_formed h = refl

component_values_formed : (h : Global) → IsWellFormed (component_values h)
component_values_formed h = refl

held_value_formed : (h : Global) → IsWellFormed (held_value h)
held_value_formed h = refl

allocation_by_assignment_formed : (h : Global) → IsWellFormed (allocation_by_assignment h)
allocation_by_assignment_formed h = refl

changing_formed : (h : Global) → IsWellFormed (changing h)
changing_formed h = refl

staged_formed : (h : Global) → IsWellFormed (staged h)
staged_formed h = refl

nested_formed : (h : Global) → IsWellFormed (nested h)
nested_formed h = refl

forms_formed : (h : Global) → IsWellFormed (forms h)
forms_formed h = refl

unlawful_formed : (h : Global) → IsWellFormed (unlawful h)
unlawful_formed h = refl

prying_formed : (h : Global) → IsWellFormed (prying h)
prying_formed h = refl

pub are_well_formed : AreWellFormed
are_well_formed h = (allocatable_01_deep_copy_formed h, allocatable_02_scalar_value_formed h, allocatable_02_stat_formed h, allocatable_02_too_large_formed h, allocatable_03_assumed_shape_formed h, associate_01_lent_formed h, associate_01_selectors_formed h, associate_03_return_formed h, finalizer_01_frees_its_holder_formed h, finalizer_02_order_formed h, heap_01_stat_ample_formed h, heap_04_other_shape_formed h, heap_04_same_shape_formed h, heap_05_dummy_itself_formed h, heap_06_held_value_formed h, heap_07_lent_element_deallocate_formed h, heap_08_lent_element_deallocate_stat_formed h, heap_09_lent_element_assign_shape_formed h, heap_10_lent_element_assign_object_formed h, heap_11_lent_element_move_from_formed h, heap_12_lent_element_move_to_formed h, heap_13_lent_element_out_allocatable_formed h, heap_14_lent_element_out_object_formed h, heap_15_lent_section_deallocate_formed h, heap_16_lent_section_deallocate_stat_formed h, heap_17_lent_section_assign_shape_formed h, heap_18_lent_section_assign_object_formed h, heap_19_lent_section_move_from_formed h, heap_20_lent_section_move_to_formed h, heap_21_lent_section_out_allocatable_formed h, heap_22_lent_section_out_object_formed h, heap_23_lent_empty_section_deallocate_formed h, heap_24_lent_empty_section_deallocate_stat_formed h, heap_25_lent_empty_section_assign_shape_formed h, heap_26_lent_empty_section_assign_object_formed h, heap_27_lent_empty_section_move_from_formed h, heap_28_lent_empty_section_move_to_formed h, heap_29_lent_empty_section_out_allocatable_formed h, heap_30_lent_empty_section_out_object_formed h, heap_31_lent_whole_array_deallocate_formed h, heap_32_lent_whole_array_deallocate_stat_formed h, heap_33_lent_whole_array_assign_shape_formed h, heap_34_lent_whole_array_assign_object_formed h, heap_35_lent_whole_array_move_from_formed h, heap_36_lent_whole_array_move_to_formed h, heap_37_lent_whole_array_out_allocatable_formed h, heap_38_lent_whole_array_out_object_formed h, heap_39_lent_allocatable_dummy_deallocate_formed h, heap_40_lent_allocatable_dummy_deallocate_stat_formed h, heap_41_lent_allocatable_dummy_assign_shape_formed h, heap_42_lent_allocatable_dummy_assign_object_formed h, heap_43_lent_allocatable_dummy_move_from_formed h, heap_44_lent_allocatable_dummy_move_to_formed h, heap_45_lent_allocatable_dummy_out_allocatable_formed h, heap_46_lent_allocatable_dummy_out_object_formed h, heap_47_lent_final_deallocate_formed h, heap_48_lent_final_deallocate_stat_formed h, heap_49_lent_final_assign_shape_formed h, heap_50_lent_final_assign_object_formed h, heap_51_lent_final_move_from_formed h, heap_52_lent_final_move_to_formed h, heap_53_lent_final_out_allocatable_formed h, heap_54_lent_final_out_object_formed h, hostile_02_name_63_formed h, hostile_03_do_64_formed h, hostile_03_parentheses_64_formed h, kinds_01_wide_formed h, kinds_02_mixed_formed h, kinds_06_do_formed h, machine_01_sections_formed h, machine_02_depth_formed h, modules_01_rename_formed h, modules_02_two_names_formed h, sample_02_print_formed h, sample_04_bump_formed h, sample_06_whole_object_formed h, sample_07_bounds_formed h, sample_08_zero_extent_formed h, sample_09_finals_formed h, sample_10_array_final_formed h, sample_10_scalar_final_formed h, sample_11_deallocate_formed h, sample_11_move_alloc_formed h, sample_11_stat_formed h, sample_12_move_to_itself_formed h, sample_13_arithmetic_formed h, sample_13_item_by_item_formed h, sample_13_overflow_formed h, sample_16_no_turns_formed h, sample_16_zero_step_formed h, sample_17_fresh_words_formed h, sample_19_continuation_formed h, sample_20_not_referred_formed h, sample_23_bounds_formed h, sample_23_shapes_formed h, choice_03_1_formed h, choice_06_1_formed h, choice_10_1_formed h, choice_12_1_formed h, choice_17_1_formed h, choice_19_2_formed h, choice_36_2_formed h, choice_46_1_formed h, choice_49_1_formed h, choice_50_1_formed h, choice_52_1_formed h, choice_52_2_formed h, choice_53_1_formed h, choice_54_1_formed h, choice_56_1_formed h, choice_57_1_formed h, choice_58_1_formed h, choice_59_1_formed h, choice_61_1_formed h, choice_62_1_formed h, choice_63_1_formed h, choice_64_1_formed h, choice_67_1_formed h, choice_79_1_formed h, scalar_02_print_formed h, text_02_variable_if_formed h, usage_45_empty_statements_formed h, usage_46_letter_case_formed h, usage_47_empty_print_formed h, usage_49_stop_plain_formed h, usage_50_stop_7_formed h, usage_51_stop_least_digits_formed h, usage_52_stop_0_formed h, usage_54_stop_in_procedure_formed h, usage_55_do_up_formed h, usage_56_do_down_formed h, usage_57_do_past_range_formed h, usage_58_do_count_fixed_formed h, usage_59_cycle_exit_formed h, usage_60_do_while_formed h, usage_61_exit_inner_formed h, usage_62_if_chain_formed h, usage_63_if_joined_words_formed h, usage_64_if_action_place_formed h, usage_65_case_ranges_formed h, usage_66_case_default_first_formed h, usage_67_case_logical_formed h, usage_68_case_none_formed h, usage_69_both_operands_formed h, usage_70_logical_items_formed h, usage_71_powers_formed h, usage_72_zero_to_minus_one_formed h, usage_73_least_integer_formed h, usage_74_quotient_past_range_formed h, usage_75_mod_modulo_formed h, usage_77_triplet_step_zero_formed h, usage_78_allocate_twice_formed h, usage_79_deallocate_nothing_formed h, usage_80_allocate_too_large_formed h, refused_with_stat_formed h, not_refused_formed h, refused_without_stat_formed h, three_turns_formed h, no_room_to_start_formed h, no_room_for_a_call_formed h, depth_of_three_formed h, no_room_for_a_copy_formed h, protected_elsewhere_formed h, protected_renamed_formed h, intent_in_formed h, protected_passed_on_formed h, private_component_formed h, corner_sections_formed h, corner_finals_of_sections_formed h, corner_functions_formed h, corner_associates_formed h, corner_intent_out_formed h, corner_moves_formed h, corner_control_formed h, corner_kinds_formed h, corner_lent_objects_formed h, corner_scalars_formed h, stat_last_formed h, out_while_lent_formed h, held_is_not_final_formed h, move_lends_formed h, bounds_before_variable_formed h, shapes_before_destroying_formed h, step_before_bounds_formed h, subscripts_before_contents_formed h, associate_from_one_formed h, locals_at_return_formed h, locals_at_end_formed h, asked_for_objects_formed h, array_constructor_formed h, array_result_formed h, component_values_formed h, held_value_formed h, allocation_by_assignment_formed h, changing_formed h, staged_formed h, nested_formed h, forms_formed h, unlawful_formed h, prying_formed h)
