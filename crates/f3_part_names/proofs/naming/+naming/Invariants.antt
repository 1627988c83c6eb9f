use Rattle.std.proofs.Common.{◌≡◌, ◌++◌, map, drop}
use Rattle.f3_tree.specs.Expressions.{expression_view, argument_view, trees_of, rest_of, arguments_of, parts_list, part_view}
use Rattle.f3_part_names.specs.Names.{named_all, named_rest, named_components, in_parentheses, named_arguments, operand_view}
use Rattle.f3_part_names.proofs.naming.+naming.Given as goal

abbrev pub invariant-all-loop-e : goal.invariant-all-loop-e
invariant-all-loop-e l = l.names.items ++ named_all (trees_of (map expression_view (drop l.e-index l.elements))) ≡ l.fn.names.items ++ named_all (trees_of (map expression_view l.elements))

abbrev pub invariant-arguments-loop-argument : goal.invariant-arguments-loop-argument
invariant-arguments-loop-argument l = l.names.items ++ named_arguments (arguments_of (map argument_view (drop l.argument-index l.list))) ≡ l.fn.names.items ++ named_arguments (arguments_of (map argument_view l.list))

abbrev pub invariant-rest-loop-e : goal.invariant-rest-loop-e
invariant-rest-loop-e l = l.names.items ++ named_rest (rest_of (map operand_view (drop l.e-index l.others))) ≡ l.fn.names.items ++ named_rest (rest_of (map operand_view l.others))

abbrev pub invariant-in_parentheses-loop-part : goal.invariant-in_parentheses-loop-part
invariant-in_parentheses-loop-part l = l.names.items ++ named_components (parts_list (map part_view (drop l.part-index l.part-items))) ≡ l.fn.names.items ++ in_parentheses (expression_view l.fn.e)
