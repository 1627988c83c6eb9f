-- What intrinsic functions make of lists of values, each of as many as it takes.
use Rattle.std.specs.Prelude.{List, [], ◌∷◌, Option, None, Some}
use Rattle.f3_program.specs.declared.declarations.Base.{Base}
use Rattle.f3_program.specs.declared.expression.BinaryOperator.{BinaryOperator}
use Rattle.f3_program.specs.declared.expression.Query.{Query}
use Rattle.f3_kinds.specs.Things.{map_or}
use Rattle.f3_elaboration.specs.Nodes as n
use Rattle.f3_elaboration.specs.Nodes.{ExpressionNode}
use Rattle.f3_elaboration.specs.Expressions.{asked, nested, no_value}

abbrev pub two_of : List ExpressionNode → Option (ExpressionNode × ExpressionNode)
two_of (x ∷ y ∷ []) = Some (x, y)
two_of _ = None

abbrev pub operation_of_two : BinaryOperator → Base → List ExpressionNode → ExpressionNode
operation_of_two f of xs = map_or no_value (λ (p : ExpressionNode × ExpressionNode). n.binary f of p.0 p.1) (two_of xs)

abbrev pub bound_of_two : Query → List ExpressionNode → ExpressionNode
bound_of_two q xs = map_or no_value (λ (p : ExpressionNode × ExpressionNode). n.bound q (asked p.0) p.1) (two_of xs)

abbrev pub nested_of : BinaryOperator → Base → List ExpressionNode → ExpressionNode
nested_of f of [] = no_value
nested_of f of (x ∷ xs) = nested f of x xs
