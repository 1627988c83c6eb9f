-- Parts of expressions without where they lie in memory.
use Rattle.std.specs.Prelude.{List, map, Option}
use Rattle.std.specs.Option.{option_map}
use Rattle.std.specs.Global.{Vec}
use Rattle.f3_tree.specs.declared.expression.Name.{Name}
use Rattle.f3_tree.specs.declared.expression.Operator.{Operator}
use Rattle.f3_tree.specs.declared.expression.Expression.{Expression}
use Rattle.f3_tree.specs.declared.expression.Argument.{Argument}
use Rattle.f3_tree.specs.Expressions.{Tree, ArgumentTree, Behind, Perhaps, expression_view, argument_view, behind_list, perhaps_of}

abbrev pub operands_view : Vec (Operator × Expression) → List (Operator × Tree)
operands_view v = map (λ x. (x.0, expression_view x.1)) v.items

abbrev pub elements_view : Vec Expression → List Tree
elements_view v = map expression_view v.items

abbrev pub arguments_view : Vec Argument → List ArgumentTree
arguments_view v = map argument_view v.items

abbrev pub behind_view : Option (Vec Argument) → Behind
behind_view b = behind_list (option_map arguments_view b)

abbrev pub named_view : Name × Option (Vec Argument) → Name × Behind
named_view p = (p.0, behind_view p.1)

abbrev pub parts_view : Vec (Name × Option (Vec Argument)) → List (Name × Behind)
parts_view v = map named_view v.items

abbrev pub bound_view : Option Expression → Perhaps
bound_view b = perhaps_of (option_map expression_view b)
