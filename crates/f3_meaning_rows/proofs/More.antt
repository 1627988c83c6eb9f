use Rattle.std.specs.Prelude.{refl}
use Rattle.std.specs.Fmt.{digits}
use Rattle.std.specs.declared.alloc.Global.{Global}
use Rattle.f3_meaning_whole.specs.Ran.{◌>>=◌, gives, fails, stops, beyond, looks, does, asks, prints_bytes}
use Rattle.f3_meaning_whole.specs.Arithmetic.{converted, divided}
use Rattle.f3_meaning_whole.specs.Act.{fitted}
use Rattle.f3_meaning_whole.specs.Run.{calls_of, runs, run_of}
use Rattle.f3_meaning_whole.specs.Permitted.{IsLawful}
use Rattle.f3_meaning_rows.specs.More.{MoreShow, allocation_by_assignment, allocation_by_assignment_2_shows, allocation_by_assignment_shows, array_constructor, array_constructor_shows, array_result, array_result_2_shows, array_result_shows, asked_for_objects, asked_for_objects_asks, asked_for_objects_shows, associate_from_one, associate_from_one_shows, bounds_before_variable, bounds_before_variable_shows, component_values, component_values_2_shows, component_values_3_shows, component_values_shows, held_is_not_final, held_is_not_final_shows, held_value, held_value_2_shows, held_value_3_shows, held_value_shows, locals_at_end, locals_at_end_shows, locals_at_return, locals_at_return_shows, move_lends, move_lends_shows, out_while_lent, out_while_lent_shows, shapes_before_destroying, shapes_before_destroying_shows, stat_last, stat_last_shows, step_before_bounds, step_before_bounds_shows, subscripts_before_contents, subscripts_before_contents_shows}

stat_last_run : (h : Global) → stat_last_shows h
unfolding digits converted divided prints_bytes fitted run_of runs calls_of ◌>>=◌ gives fails stops beyond looks does asks
stat_last_run h = refl

stat_last_lawful : (h : Global) → IsLawful (stat_last h)
stat_last_lawful h = record { in_main = search; in_procedures = search; in_types = search }

out_while_lent_run : (h : Global) → out_while_lent_shows h
unfolding digits converted divided prints_bytes fitted run_of runs calls_of ◌>>=◌ gives fails stops beyond looks does asks
out_while_lent_run h = refl

out_while_lent_lawful : (h : Global) → IsLawful (out_while_lent h)
out_while_lent_lawful h = record { in_main = search; in_procedures = search; in_types = search }

held_is_not_final_run : (h : Global) → held_is_not_final_shows h
unfolding digits converted divided prints_bytes fitted run_of runs calls_of ◌>>=◌ gives fails stops beyond looks does asks
held_is_not_final_run h = refl

held_is_not_final_lawful : (h : Global) → IsLawful (held_is_not_final h)
held_is_not_final_lawful h = record { in_main = search; in_procedures = search; in_types = search }

move_lends_run : (h : Global) → move_lends_shows h
unfolding digits converted divided prints_bytes fitted run_of runs calls_of ◌>>=◌ gives fails stops beyond looks does asks
move_lends_run h = refl

move_lends_lawful : (h : Global) → IsLawful (move_lends h)
move_lends_lawful h = record { in_main = search; in_procedures = search; in_types = search }

bounds_before_variable_run : (h : Global) → bounds_before_variable_shows h
unfolding digits converted divided prints_bytes fitted run_of runs calls_of ◌>>=◌ gives fails stops beyond looks does asks
bounds_before_variable_run h = refl

bounds_before_variable_lawful : (h : Global) → IsLawful (bounds_before_variable h)
bounds_before_variable_lawful h = record { in_main = search; in_procedures = search; in_types = search }

shapes_before_destroying_run : (h : Global) → shapes_before_destroying_shows h
unfolding digits converted divided prints_bytes fitted run_of runs calls_of ◌>>=◌ gives fails stops beyond looks does asks
shapes_before_destroying_run h = refl

shapes_before_destroying_lawful : (h : Global) → IsLawful (shapes_before_destroying h)
shapes_before_destroying_lawful h = record { in_main = search; in_procedures = search; in_types = search }

step_before_bounds_run : (h : Global) → step_before_bounds_shows h
unfolding digits converted divided prints_bytes fitted run_of runs calls_of ◌>>=◌ gives fails stops beyond looks does asks
step_before_bounds_run h = refl

step_before_bounds_lawful : (h : Global) → IsLawful (step_before_bounds h)
step_before_bounds_lawful h = record { in_main = search; in_procedures = search; in_types = search }

subscripts_before_contents_run : (h : Global) → subscripts_before_contents_shows h
unfolding digits converted divided prints_bytes fitted run_of runs calls_of ◌>>=◌ gives fails stops beyond looks does asks
subscripts_before_contents_run h = refl

subscripts_before_contents_lawful : (h : Global) → IsLawful (subscripts_before_contents h)
subscripts_before_contents_lawful h = record { in_main = search; in_procedures = search; in_types = search }

associate_from_one_run : (h : Global) → associate_from_one_shows h
unfolding digits converted divided prints_bytes fitted run_of runs calls_of ◌>>=◌ gives fails stops beyond looks does asks
associate_from_one_run h = refl

associate_from_one_lawful : (h : Global) → IsLawful (associate_from_one h)
associate_from_one_lawful h = record { in_main = search; in_procedures = search; in_types = search }

locals_at_return_run : (h : Global) → locals_at_return_shows h
unfolding digits converted divided prints_bytes fitted run_of runs calls_of ◌>>=◌ gives fails stops beyond looks does asks
locals_at_return_run h = refl

locals_at_return_lawful : (h : Global) → IsLawful (locals_at_return h)
locals_at_return_lawful h = record { in_main = search; in_procedures = search; in_types = search }

locals_at_end_run : (h : Global) → locals_at_end_shows h
unfolding digits converted divided prints_bytes fitted run_of runs calls_of ◌>>=◌ gives fails stops beyond looks does asks
locals_at_end_run h = refl

locals_at_end_lawful : (h : Global) → IsLawful (locals_at_end h)
locals_at_end_lawful h = record { in_main = search; in_procedures = search; in_types = search }

asked_for_objects_run : (h : Global) → asked_for_objects_shows h
unfolding digits converted divided prints_bytes fitted run_of runs calls_of ◌>>=◌ gives fails stops beyond looks does asks
asked_for_objects_run h = refl

asked_for_objects_lawful : (h : Global) → IsLawful (asked_for_objects h)
asked_for_objects_lawful h = record { in_main = search; in_procedures = search; in_types = search }

array_constructor_run : (h : Global) → array_constructor_shows h
unfolding digits converted divided prints_bytes fitted run_of runs calls_of ◌>>=◌ gives fails stops beyond looks does asks
array_constructor_run h = refl

array_constructor_lawful : (h : Global) → IsLawful (array_constructor h)
array_constructor_lawful h = record { in_main = search; in_procedures = search; in_types = search }

array_result_run : (h : Global) → array_result_shows h
unfolding digits converted divided prints_bytes fitted run_of runs calls_of ◌>>=◌ gives fails stops beyond looks does asks
array_result_run h = refl

array_result_lawful : (h : Global) → IsLawful (array_result h)
array_result_lawful h = record { in_main = search; in_procedures = search; in_types = search }

component_values_run : (h : Global) → component_values_shows h
unfolding digits converted divided prints_bytes fitted run_of runs calls_of ◌>>=◌ gives fails stops beyond looks does asks
component_values_run h = refl

component_values_lawful : (h : Global) → IsLawful (component_values h)
component_values_lawful h = record { in_main = search; in_procedures = search; in_types = search }

held_value_run : (h : Global) → held_value_shows h
unfolding digits converted divided prints_bytes fitted run_of runs calls_of ◌>>=◌ gives fails stops beyond looks does asks
held_value_run h = refl

held_value_lawful : (h : Global) → IsLawful (held_value h)
held_value_lawful h = record { in_main = search; in_procedures = search; in_types = search }

array_result_2_run : (h : Global) → array_result_2_shows h
unfolding digits converted divided prints_bytes fitted run_of runs calls_of ◌>>=◌ gives fails stops beyond looks does asks
array_result_2_run h = refl

component_values_2_run : (h : Global) → component_values_2_shows h
unfolding digits converted divided prints_bytes fitted run_of runs calls_of ◌>>=◌ gives fails stops beyond looks does asks
component_values_2_run h = refl

component_values_3_run : (h : Global) → component_values_3_shows h
unfolding digits converted divided prints_bytes fitted run_of runs calls_of ◌>>=◌ gives fails stops beyond looks does asks
component_values_3_run h = refl

held_value_2_run : (h : Global) → held_value_2_shows h
unfolding digits converted divided prints_bytes fitted run_of runs calls_of ◌>>=◌ gives fails stops beyond looks does asks
held_value_2_run h = refl

held_value_3_run : (h : Global) → held_value_3_shows h
unfolding digits converted divided prints_bytes fitted run_of runs calls_of ◌>>=◌ gives fails stops beyond looks does asks
held_value_3_run h = refl

allocation_by_assignment_run : (h : Global) → allocation_by_assignment_shows h
unfolding digits converted divided prints_bytes fitted run_of runs calls_of ◌>>=◌ gives fails stops beyond looks does asks
allocation_by_assignment_run h = refl

allocation_by_assignment_lawful : (h : Global) → IsLawful (allocation_by_assignment h)
allocation_by_assignment_lawful h = record { in_main = search; in_procedures = search; in_types = search }

allocation_by_assignment_2_run : (h : Global) → allocation_by_assignment_2_shows h
unfolding digits converted divided prints_bytes fitted run_of runs calls_of ◌>>=◌ gives fails stops beyond looks does asks
allocation_by_assignment_2_run h = refl

asked_for_objects_asks_is : (h : Global) → asked_for_objects_asks h
unfolding digits converted divided prints_bytes fitted run_of runs calls_of ◌>>=◌ gives fails stops beyond looks does asks
asked_for_objects_asks_is h = refl

pub more_show : MoreShow
more_show h = (stat_last_run h, stat_last_lawful h, out_while_lent_run h, out_while_lent_lawful h, held_is_not_final_run h, held_is_not_final_lawful h, move_lends_run h, move_lends_lawful h, bounds_before_variable_run h, bounds_before_variable_lawful h, shapes_before_destroying_run h, shapes_before_destroying_lawful h, step_before_bounds_run h, step_before_bounds_lawful h, subscripts_before_contents_run h, subscripts_before_contents_lawful h, associate_from_one_run h, associate_from_one_lawful h, locals_at_return_run h, locals_at_return_lawful h, locals_at_end_run h, locals_at_end_lawful h, asked_for_objects_run h, asked_for_objects_lawful h, array_constructor_run h, array_constructor_lawful h, array_result_run h, array_result_lawful h, component_values_run h, component_values_lawful h, held_value_run h, held_value_lawful h, array_result_2_run h, component_values_2_run h, component_values_3_run h, held_value_2_run h, held_value_3_run h, allocation_by_assignment_run h, allocation_by_assignment_lawful h, allocation_by_assignment_2_run h, asked_for_objects_asks_is h)
