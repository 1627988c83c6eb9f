use Rattle.std.proofs.Common.{◌≤◌}
use Rattle.f3_program.specs.declared.expression.Designator.{size-Designator}
use Rattle.f3_program.specs.declared.expression.Expression.{size-Expression}
use Rattle.f3_release.proofs.expression.+expression.Given as goal

abbrev pub invariant-release_arguments-loop-argument : goal.invariant-release_arguments-loop-argument
invariant-release_arguments-loop-argument l = goal.no_deeper-release_arguments-loop-argument l

abbrev pub decreases-release_arguments-loop-argument : goal.decreases-release_arguments-loop-argument
decreases-release_arguments-loop-argument l = goal.left-release_arguments-loop-argument l

abbrev pub invariant-release_designator-loop-current : goal.invariant-release_designator-loop-current
invariant-release_designator-loop-current l = size-Designator l.current ≤ size-Designator l.fn.designator

abbrev pub invariant-release_expression-loop-current : goal.invariant-release_expression-loop-current
invariant-release_expression-loop-current l = size-Expression l.current ≤ size-Expression l.fn.expression

abbrev pub invariant-release_subscripts-loop-subscript : goal.invariant-release_subscripts-loop-subscript
invariant-release_subscripts-loop-subscript l = goal.no_deeper-release_subscripts-loop-subscript l

abbrev pub decreases-release_subscripts-loop-subscript : goal.decreases-release_subscripts-loop-subscript
decreases-release_subscripts-loop-subscript l = goal.left-release_subscripts-loop-subscript l
