-- What is said of lists of expressions in memory.
use Rattle.std.specs.Prelude.{List, [], map, Option, None, Some}
use Rattle.std.specs.Global.{Vec}
use Rattle.std.specs.List.{flat_map}
use Rattle.f3_rules.specs.declared.breaks.Break.{Break}
use Rattle.f3_tree.specs.declared.expression.Name.{Name}
use Rattle.f3_tree.specs.declared.expression.Operator.{Operator}
use Rattle.f3_tree.specs.declared.expression.Expression.{Expression}
use Rattle.f3_tree.specs.declared.expression.Argument.{Argument}
use Rattle.f3_tree.specs.Expressions.{Tree, designator, Parts, no_parts, expression_view, argument_view}
use Rattle.f3_kinds.specs.declared.said.Said.{Said}
use Rattle.f3_kinds.specs.declared.said.Given.{Given}
use Rattle.f3_kinds.specs.Things.{Context}
use Rattle.f3_kinds.specs.Designators.{Part}
use Rattle.f3_kinds.specs.Typing.{said, said_argument, breaks, breaks_argument}

abbrev pub said_item : Context → Expression → Said
said_item c e = said c (expression_view e)

abbrev pub breaks_item : Context → Expression → List Break
breaks_item c e = breaks c (expression_view e)

abbrev pub said_operand : Context → Operator × Expression → Said
said_operand c x = said c (expression_view x.1)

abbrev pub breaks_operand : Context → Operator × Expression → List Break
breaks_operand c x = breaks c (expression_view x.1)

abbrev pub said_given : Context → Argument → Given
said_given c a = said_argument c (argument_view a)

abbrev pub breaks_given : Context → Argument → List Break
breaks_given c a = breaks_argument c (argument_view a)

abbrev pub said_within : Context → Option (Vec Argument) → Option (List Given)
said_within c None = None
said_within c (Some v) = Some (map (said_given c) v.items)

abbrev pub said_part : Context → Name × Option (Vec Argument) → Part
said_part c p = (p.0, said_within c p.1)

abbrev pub breaks_within : Context → Option (Vec Argument) → List Break
breaks_within c None = []
breaks_within c (Some v) = flat_map (breaks_given c) v.items

abbrev pub breaks_part : Context → Name × Option (Vec Argument) → List Break
breaks_part c p = breaks_within c p.1

-- the parts of a designator
abbrev pub parts_in : Tree → Parts
parts_in (designator ps) = ps
parts_in _ = no_parts
