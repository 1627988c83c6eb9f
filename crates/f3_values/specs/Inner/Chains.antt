-- Operands of one level in memory, in runs between two powers.
use Rattle.std.specs.Prelude.{List, [], ◌∷◌, Option, None, Some}
use Rattle.f3_tree.specs.declared.expression.Operator.{Operator}
use Rattle.f3_tree.specs.declared.expression.Operator.TheVariants.{Power}
use Rattle.f3_tree.specs.declared.expression.Expression.{Expression}
use Rattle.f3_tree.specs.Expressions.{expression_view}
use Rattle.f3_kinds.specs.declared.types.Scalar.{Scalar}
use Rattle.f3_kinds.specs.Things.{Context}
use Rattle.f3_kinds.specs.Values.{apply, value_of}

-- a first operand and those behind it, from the left
abbrev pub run : Context → Option Scalar → List (Operator × Expression) → Option Scalar
run c v [] = v
run c v (x ∷ xs) = run c (apply x.0 v (value_of c (expression_view x.1))) xs

abbrev pub raised_to : Option Scalar → Option (Option Scalar) → Option Scalar
raised_to base None = base
raised_to base (Some exponent) = apply Power base exponent
