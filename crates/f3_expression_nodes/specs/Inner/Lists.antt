-- Lists of expressions in memory.
use Rattle.f3_tree.specs.declared.expression.Expression.{Expression}
use Rattle.f3_tree.specs.declared.expression.Operator.{Operator}
use Rattle.f3_tree.specs.Expressions as t
use Rattle.f3_elaboration.specs.Context.{Surroundings}
use Rattle.f3_elaboration.specs.Expressions as e
use Rattle.f3_elaboration.specs.Nodes.{ArgumentNode, value}
use Rattle.f3_expression_parts.specs.declared.operators.Operand.{Operand}
use Rattle.f3_expression_parts.specs.Parts.{operand_of}
use Rattle.f3_expression_nodes.specs.Inner.Operands.{Further}

-- a value of an array constructor
abbrev pub item : Surroundings → Expression → ArgumentNode
item s x = value 0 (e.expression s (t.expression_view x))

abbrev pub operand : Surroundings → Expression → e.Operand
operand s x = e.operand s (t.expression_view x) (e.expression s (t.expression_view x))

abbrev pub further : Surroundings → Operator × Expression → Further
further s x = (x.0, operand s x.1)

abbrev pub further_of : Operator × Operand → Further
further_of x = (x.0, operand_of x.1)
