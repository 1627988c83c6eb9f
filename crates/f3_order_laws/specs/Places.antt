-- The places at which the specification parts and the headers of a unit can break a rule.
use Rattle.std.specs.Prelude.{List, [], ◌∷◌, ◌++◌, Option, Some, map}
use Rattle.std.specs.List.{flat_map}
use Rattle.f3_places.specs.declared.source.Place.{Place}
use Rattle.f3_scopes.specs.Scopes.{name_or}
use Rattle.f3_tree.specs.declared.expression.Name.{Name}
use Rattle.f3_tree.specs.declared.declaration.TypeSpecifier.{TypeSpecifier}
use Rattle.f3_tree.specs.declared.declaration.TypeSpecifier.TheVariants as specifier
use Rattle.f3_tree.specs.declared.program.ProcedureKind.{ProcedureKind}
use Rattle.f3_tree.specs.declared.program.ProcedureKind.TheVariants.{Function}
use Rattle.f3_tree.specs.Expressions.{Tree, integer, truth, text, designator, group, array, signed, negation, comparison, chain, Rest, no_more, more}
use Rattle.f3_tree.specs.Expressions.{Trees, no_trees, trees, Parts, no_parts, parts, Behind, bare, within, Arguments, no_arguments, arguments}
use Rattle.f3_tree.specs.Expressions.{ArgumentTree, value, triplet, Perhaps, absent, present}
use Rattle.f3_tree.specs.Declarations.{Bounds, ShapeTree, explicit, deferred, AttributeTree, dimension, Placed, EntityTree, DeclarationTree, TypeTree}
use Rattle.f3_tree.specs.Declarations.{SpecificationTree, declares, defines}
use Rattle.f3_tree.specs.Tree.{ProcedureTree, UnitTree}
use Rattle.f3_kinds.specs.Things.{map_or}
use Rattle.f3_kinds.specs.Typing.{nowhere}

abbrev pub keyword_places : Option Name → List Place
keyword_places keyword = map_or [] (λ (n : Name). n.place ∷ []) keyword

-- of a designator without parts, which no source spells
abbrev pub unwritten : Parts → List Place
unwritten no_parts = nowhere ∷ []
unwritten (parts n b ps) = []

abbrev mutual
  pub tree_places : Tree → List Place
  tree_places (integer p n) = p ∷ []
  tree_places (truth p b) = p ∷ []
  tree_places (text p k) = p ∷ []
  tree_places (designator ps) = unwritten ps ++ parts_places ps
  tree_places (group p e) = p ∷ tree_places e
  tree_places (array p es) = p ∷ trees_places es
  tree_places (signed p s e) = p ∷ tree_places e
  tree_places (negation p e) = p ∷ tree_places e
  tree_places (comparison e relation f) = tree_places e ++ tree_places f
  tree_places (chain e os) = tree_places e ++ rest_places os

  pub rest_places : Rest → List Place
  rest_places no_more = []
  rest_places (more o e os) = tree_places e ++ rest_places os

  pub trees_places : Trees → List Place
  trees_places no_trees = []
  trees_places (trees e es) = tree_places e ++ trees_places es

  pub parts_places : Parts → List Place
  parts_places no_parts = []
  parts_places (parts n b ps) = n.place ∷ (behind_places b ++ parts_places ps)

  pub behind_places : Behind → List Place
  behind_places bare = []
  behind_places (within list) = arguments_places list

  pub arguments_places : Arguments → List Place
  arguments_places no_arguments = []
  arguments_places (arguments a others) = argument_places a ++ arguments_places others

  pub argument_places : ArgumentTree → List Place
  argument_places (value keyword e) = keyword_places keyword ++ tree_places e
  argument_places (triplet p first last stride) = p ∷ (perhaps_places first ++ (perhaps_places last ++ perhaps_places stride))

  pub perhaps_places : Perhaps → List Place
  perhaps_places absent = []
  perhaps_places (present e) = tree_places e

-- ---- declarations

abbrev pub given_places : Option Tree → List Place
given_places e = map_or [] tree_places e

abbrev pub bounds_places : Bounds → List Place
bounds_places b = given_places b.lower ++ tree_places b.upper

abbrev pub shape_places : ShapeTree → List Place
shape_places (explicit bs) = flat_map bounds_places bs
shape_places (deferred ls) = flat_map given_places ls

abbrev pub attribute_places : AttributeTree → List Place
attribute_places (dimension s) = shape_places s
attribute_places _ = []

abbrev pub entity_places : EntityTree → List Place
entity_places x = (x.name).place ∷ (map_or [] shape_places x.shape ++ given_places x.initial)

abbrev pub specifier_places : TypeSpecifier → List Place
specifier_places (specifier.Derived n) = n.place ∷ []
specifier_places _ = []

abbrev pub declaration_places : DeclarationTree → List Place
declaration_places d =
    specifier_places d.specifier
    ++ (flat_map attribute_places (map (λ (p : Placed). p.attribute) d.attributes) ++ flat_map entity_places d.entities)

abbrev pub type_places : TypeTree → List Place
type_places t = (t.name).place ∷ (flat_map declaration_places t.components ++ map (λ (n : Name). n.place) t.finals)

abbrev pub specification_places : SpecificationTree → List Place
specification_places (declares d) = declaration_places d
specification_places (defines t) = type_places t
specification_places _ = []

-- ---- procedures and units

abbrev pub kind_places : ProcedureKind → Name → List Place
kind_places (Function (Some t) outcome) n = specifier_places t ++ (name_or outcome n).place ∷ []
kind_places _ n = []

abbrev pub procedure_places : ProcedureTree → List Place
procedure_places p = kind_places (p.header).kind (p.header).name ++ flat_map specification_places (p.part).specifications

abbrev pub unit_places : UnitTree → List Place
unit_places u = flat_map specification_places (u.part).specifications ++ flat_map procedure_places u.procedures
