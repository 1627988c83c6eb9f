-- What is seen of the parts of an action.
use Rattle.std.specs.Prelude.{List, map, Option}
use Rattle.std.specs.Option.{option_map}
use Rattle.std.specs.Global.{Vec}
use Rattle.f3_tree.specs.declared.expression.Name.{Name}
use Rattle.f3_tree.specs.declared.expression.Argument.{Argument}
use Rattle.f3_tree.specs.declared.expression.Expression.{Expression}
use Rattle.f3_tree.specs.Expressions.{Tree, Parts, expression_view, designator_view}

-- the objects of an ALLOCATE or DEALLOCATE, and its STAT variable
abbrev pub allocation_view : Vec (Vec (Name × Option (Vec Argument))) × Option (Vec (Name × Option (Vec Argument))) → List Parts × Option Parts
allocation_view x = (map designator_view (x.0).items, option_map designator_view x.1)

abbrev pub steps_view : Expression × Expression × Option Expression → Tree × Tree × Option Tree
steps_view x = (expression_view x.0, expression_view x.1, option_map expression_view x.2)
