-- Rows of what stands in lists in memory.
use Rattle.std.specs.Prelude.{Bool, true, false, List, Option}
use Rattle.std.specs.Global.{Vec}
use Rattle.std.specs.List.{flat_map}
use Rattle.f3_rules.specs.declared.breaks.Break.{Break}
use Rattle.f3_tree.specs.declared.expression.Name.{Name}
use Rattle.f3_tree.specs.declared.expression.Expression.{Expression}
use Rattle.f3_tree.specs.declared.expression.Argument.{Argument}
use Rattle.f3_tree.specs.Expressions.{Tree, text, expression_view, designator_view}
use Rattle.f3_kinds.specs.declared.said.Given.{Given}
use Rattle.f3_kinds.specs.declared.said.Role.{Role}
use Rattle.f3_kinds.specs.Things.{Context, Nature, subroutine, Meaning, entity}
use Rattle.f3_kinds.specs.Typing.{designator_at, designator_breaks}
use Rattle.f3_type_rules.specs.Statements.{item_breaks}
use Rattle.f3_type_rules.specs.Definitions.{Site, definition_rows, value_given}

abbrev pub object_breaks : Context → Role → Vec (Name × Option (Vec Argument)) → List Break
object_breaks c u v = designator_breaks c u (designator_view v)

-- what forbids the definition of an object of ALLOCATE or DEALLOCATE
abbrev pub object_definition : Site → Role → Vec (Name × Option (Vec Argument)) → List Break
object_definition site u v = definition_rows site (designator_at (site.context) u (designator_view v))

abbrev pub item_row : Context → Expression → List Break
item_row c e = item_breaks c (expression_view e)

abbrev pub is_text : Tree → Bool
is_text (text p k) = true
is_text _ = false

-- what forbids the definition of what is given
abbrev pub value_definition : Site → Given → List Break
value_definition site g = flat_map (definition_rows site) (value_given g)

-- whether what a name means may be called in a PURE procedure or a function
abbrev pub is_pure_nature : Nature → Bool
is_pure_nature (subroutine pure ds) = pure
is_pure_nature _ = true

abbrev pub is_pure_meaning : Meaning → Bool
is_pure_meaning (entity e n) = is_pure_nature n
is_pure_meaning _ = true
