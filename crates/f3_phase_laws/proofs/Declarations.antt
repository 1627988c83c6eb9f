-- The breaks of specification parts and of headers.
use Rattle.std.proofs.Common.{ℕ, Bool, List, [], ◌∷◌, Option, Some, None, refl}
use Rattle.f3_tree.specs.declared.expression.Name.{Name}
use Rattle.f3_tree.specs.declared.declaration.TypeSpecifier.{TypeSpecifier}
use Rattle.f3_tree.specs.declared.declaration.TypeSpecifier.TheVariants as specifier
use Rattle.f3_tree.specs.declared.program.ProcedureKind.{ProcedureKind}
use Rattle.f3_tree.specs.declared.program.ProcedureKind.TheVariants.{Subroutine, Function}
use Rattle.f3_tree.specs.Expressions.{Tree}
use Rattle.f3_tree.specs.Declarations.{ShapeTree, explicit, deferred, AttributeTree, access, protected, parameter, save, allocatable, dimension, intent}
use Rattle.f3_tree.specs.Declarations.{EntityTree, DeclarationTree, TypeTree, SpecificationTree, declares, defines}
use Rattle.f3_kinds.specs.declared.types.DataType.{DataType}
use Rattle.f3_kinds.specs.declared.types.DataType.TheVariants.{Integer, Logical, Derived}
use Rattle.f3_kinds.specs.Things.{Context}
use Rattle.f3_kinds.specs.Calls.{added}
use Rattle.f3_kinds.specs.Values.{value_of, is_number}
use Rattle.f3_type_rules.specs.Constants.{constant_rows}
use Rattle.f3_type_rules.specs.Names.{Declared, attributes_of}
use Rattle.f3_type_rules.specs.Members.{Member, Numbered}
use Rattle.f3_type_rules.specs.Finals.{final_rows}
use Rattle.f3_type_rules.specs.Scene.{Scene}
use Rattle.f3_type_rules.specs.Walks.{Known, Spot, context}
use Rattle.f3_type_rules.specs.Shapes.{bound_rows, shape_rows, dimension_rows, size_rows}
use Rattle.f3_type_rules.specs.Declarations.{type_rows, specifier_rows, entity_rows, entity_next, declaration_rows, component_rows, type_definition_rows, specification_rows, local_rows, header_rows, member_rows, unit_rows}
use Rattle.f3_phase_laws.proofs.Lists.{IsHere, Timely, none, one, both, one_unless, each, lists, walk}
use Rattle.f3_phase_laws.proofs.Expressions.{breaks_timely}

pub constant_timely : {here : ℕ} (phase : ℕ) → IsHere here phase → (c : Context) → IsHere here c.phase → (right : Bool) (e : Tree) → Timely here (constant_rows phase c right e)
constant_timely phase p c h right e = both (breaks_timely c h e) (one_unless _ _ p)

bound_timely : (c : Context) → IsHere 5 c.phase → (e : Tree) → Timely 5 (bound_rows c e)
bound_timely c h e = constant_timely 5 refl c h (is_number (value_of c e)) e

shape_timely : (c : Context) → IsHere 5 c.phase → (o : Option ShapeTree) → Timely 5 (shape_rows c o)
shape_timely c h None = none
shape_timely c h (Some (explicit bs)) = search (lists, bound_timely c h)
shape_timely c h (Some (deferred ls)) = search (lists, bound_timely c h)

dimension_timely : (c : Context) → IsHere 5 c.phase → (a : AttributeTree) → Timely 5 (dimension_rows c a)
dimension_timely c h (access a) = none
dimension_timely c h protected = none
dimension_timely c h parameter = none
dimension_timely c h save = none
dimension_timely c h allocatable = none
dimension_timely c h (dimension s) = shape_timely c h (Some s)
dimension_timely c h (intent i) = none

final_timely : (rank : Name → Option ℕ) (seen ranks : List ℕ) (ns : List Name) → Timely 5 (final_rows rank seen ranks ns)
final_timely rank seen ranks [] = none
final_timely rank seen ranks (n ∷ ns) = both (one_unless _ _ refl) (final_timely rank (n.symbol ∷ seen) (added ranks (rank n)) ns)

type_timely : (s : Spot) (k : Known) (n : Name) (t : Option DataType) → Timely 5 (type_rows s k n t)
type_timely s k n None = one _ refl
type_timely s k n (Some (Integer i)) = one _ refl
type_timely s k n (Some Logical) = one _ refl
type_timely s k n (Some (Derived e)) = search lists

specifier_timely : (s : Spot) (k : Known) (t : TypeSpecifier) → Timely 5 (specifier_rows s k t)
specifier_timely s k (specifier.Integer i) = none
specifier_timely s k specifier.Logical = none
specifier_timely s k (specifier.Derived n) = type_timely s k n _

size_timely : (s : Spot) (k : Known) (x : Declared) → Timely 5 (size_rows s k x)
size_timely s k x = search lists

entity_timely : (s : Spot) (d : DeclarationTree) (k : Known) (x : EntityTree) → Timely 5 (entity_rows s d k x)
entity_timely s d k x =
    both (shape_timely (context s k) refl x.shape) (both (one_unless _ _ refl) (both (size_timely s k (d, x)) (search (lists, constant_timely {here = 5} 5 refl (context s k) refl))))

declaration_timely : (s : Spot) (k : Known) (d : DeclarationTree) → Timely 5 (declaration_rows s k d)
declaration_timely s k d =
    both (specifier_timely s k d.specifier) (both (each _ (attributes_of d) (dimension_timely (context s k) refl)) (walk _ (entity_next s d) k d.entities (entity_timely s d)))

component_timely : (s : Spot) (k : Known) (d : DeclarationTree) → Timely 5 (component_rows s k d)
component_timely s k d =
    both (specifier_timely s k d.specifier) (both (each _ (attributes_of d) (dimension_timely (context s k) refl)) (each _ d.entities (entity_timely s d k)))

type_definition_timely : (s : Spot) (procedures : List Member) (k : Known) (t : TypeTree) → Timely 5 (type_definition_rows s procedures k t)
type_definition_timely s procedures k t = search (lists, component_timely, final_timely)

specification_timely : (s : Spot) (procedures : List Member) (k : Known) (x : SpecificationTree) → Timely 5 (specification_rows s procedures k x)
specification_timely s procedures k (declares d) = declaration_timely s k d
specification_timely s procedures k (defines t) = type_definition_timely s procedures k t
specification_timely s procedures k _ = none

local_timely : (s : Spot) (x : Declared) → Timely 5 (local_rows s x)
local_timely s x = search lists

header_timely : (s : Spot) (k : Known) (n : Name) (p : ProcedureKind) → Timely 5 (header_rows s k n p)
header_timely s k n Subroutine = none
header_timely s k n (Function None outcome) = none
header_timely s k n (Function (Some t) outcome) = both (specifier_timely s k t) (one_unless _ _ refl)

member_timely : (scene : Scene) (unit : ℕ) (k : Known) (m : Member) → Timely 5 (member_rows scene unit k m)
member_timely scene unit k m = search (lists, walk, header_timely, specification_timely, local_timely)

pub unit_timely : (scene : Scene) (k : Known) (u : Numbered) → Timely 5 (unit_rows scene k u)
unit_timely scene k u = search (lists, walk, specification_timely, member_timely)
