-- The operands of one level (ISO/IEC 1539-1:2004, 7.1.1.3).
use Rattle.std.specs.Prelude.{List, [], ◌∷◌, if◌then◌else◌}
use Rattle.f3_tree.specs.declared.expression.Operator.{Operator}
use Rattle.f3_tree.specs.declared.expression.Operator.TheVariants.{Power}
use Rattle.f3_elaboration.specs.Context.{Surroundings}
use Rattle.f3_elaboration.specs.Expressions.{Operand, is_power, joined}

-- an operator, and the operand behind it
abbrev pub Further : Type 0
Further = Operator × Operand

-- an operand, and those behind it
abbrev pub chained : Surroundings → Operand → List Further → Operand
chained s x [] = x
chained s x (y ∷ ys) = if is_power y.0 then joined s y.0 x (chained s y.1 ys) else chained s (joined s y.0 x y.1) ys

-- operands, each raised to what stands behind it, and the last exponent
abbrev pub raised : Surroundings → List Operand → Operand → Operand
raised s [] y = y
raised s (x ∷ xs) y = joined s Power x (raised s xs y)
