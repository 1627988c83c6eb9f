-- The names to which specification parts refer (16.2, 16.4).
use Rattle.std.specs.Prelude.{List, [], ◌∷◌, ◌++◌, Option, Some, None}
use Rattle.std.specs.List.{flat_map}
use Rattle.std.specs.Option.{option_map}
use Rattle.f3_tree.specs.declared.expression.Name.{Name}
use Rattle.f3_tree.specs.declared.declaration.TypeSpecifier.{TypeSpecifier}
use Rattle.f3_tree.specs.declared.declaration.TypeSpecifier.TheVariants.{Integer, Logical, Derived}
use Rattle.f3_tree.specs.declared.expression.Operator.{Operator}
use Rattle.f3_tree.specs.declared.expression.Expression.{Expression}
use Rattle.f3_tree.specs.Expressions.{expression_view, Tree, integer, truth, text, designator, group, array, signed, negation, comparison}
use Rattle.f3_tree.specs.Expressions.{chain, Rest, no_more, more, Trees, no_trees, trees, Parts, no_parts, parts, Behind, bare, within}
use Rattle.f3_tree.specs.Expressions.{Arguments, no_arguments, arguments, ArgumentTree, value, triplet, Perhaps, absent, present}
use Rattle.f3_tree.specs.Declarations.{Bounds, ShapeTree, explicit, deferred, AttributeTree, dimension, Placed, EntityTree, DeclarationTree}
use Rattle.f3_tree.specs.Declarations.{TypeTree, SpecificationTree, declares, defines}

-- The names to which an expression refers, in the order written: the first name of each designator, and those in
-- parentheses. The name of a component, or the keyword of an argument, refers to nothing by itself.
abbrev pub first_name : Parts → List Name
first_name no_parts = []
first_name (parts n b ps) = n ∷ []

abbrev mutual
  pub named : Tree → List Name
  named (integer p n) = []
  named (truth p b) = []
  named (text p k) = []
  named (designator ps) = first_name ps ++ named_components ps
  named (group p e) = named e
  named (array p es) = named_all es
  named (signed p s e) = named e
  named (negation p e) = named e
  named (comparison e relation f) = named e ++ named f
  named (chain e os) = named e ++ named_rest os

  pub named_rest : Rest → List Name
  named_rest no_more = []
  named_rest (more o e os) = named e ++ named_rest os

  pub named_all : Trees → List Name
  named_all no_trees = []
  named_all (trees e es) = named e ++ named_all es

  pub named_components : Parts → List Name
  named_components no_parts = []
  named_components (parts n b ps) = named_behind b ++ named_components ps

  pub named_behind : Behind → List Name
  named_behind bare = []
  named_behind (within list) = named_arguments list

  pub named_arguments : Arguments → List Name
  named_arguments no_arguments = []
  named_arguments (arguments a others) = named_argument a ++ named_arguments others

  pub named_argument : ArgumentTree → List Name
  named_argument (value keyword e) = named e
  named_argument (triplet p first last stride) = named_perhaps first ++ (named_perhaps last ++ named_perhaps stride)

  pub named_perhaps : Perhaps → List Name
  named_perhaps absent = []
  named_perhaps (present e) = named e

abbrev pub named_in : Option Tree → List Name
named_in None = []
named_in (Some e) = named e

abbrev pub named_bounds : Bounds → List Name
named_bounds b = named_in b.lower ++ named b.upper

abbrev pub named_shape : ShapeTree → List Name
named_shape (explicit bs) = flat_map named_bounds bs
named_shape (deferred ls) = flat_map named_in ls

abbrev pub named_shape_in : Option ShapeTree → List Name
named_shape_in None = []
named_shape_in (Some s) = named_shape s

abbrev pub named_specifier : TypeSpecifier → List Name
named_specifier (Integer k) = []
named_specifier Logical = []
named_specifier (Derived n) = n ∷ []

abbrev pub named_attribute : AttributeTree → List Name
named_attribute (dimension s) = named_shape s
named_attribute _ = []

abbrev pub named_placed : Placed → List Name
named_placed p = named_attribute p.attribute

abbrev pub named_entity : EntityTree → List Name
named_entity e = named_shape_in e.shape ++ named_in e.initial

abbrev pub named_declaration : DeclarationTree → List Name
named_declaration d = named_specifier d.specifier ++ (flat_map named_placed d.attributes ++ flat_map named_entity d.entities)

abbrev pub named_type : TypeTree → List Name
named_type t = flat_map named_declaration t.components ++ t.finals

abbrev pub named_specification : SpecificationTree → List Name
named_specification (declares d) = named_declaration d
named_specification (defines t) = named_type t
named_specification _ = []

-- ---- what of an expression in memory these read

abbrev pub operand_view : Operator × Expression → Operator × Tree
operand_view x = (x.0, expression_view x.1)

abbrev pub lower_view : Option Expression → Option Tree
lower_view l = option_map expression_view l

abbrev pub in_parentheses : Tree → List Name
in_parentheses (designator ps) = named_components ps
in_parentheses _ = []
