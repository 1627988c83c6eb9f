-- The numbers of variables, procedures and types. A list of entities numbers them: each has the number of its place in the list.
use Rattle.std.specs.Prelude.{ℕ, ◌+◌, Bool, not, ◌&&◌, ◌||◌, nat_eq, List, [], ◌∷◌, ◌++◌, Option, None, Some}
use Rattle.std.specs.Prelude.{map, length, filter, position}
use Rattle.std.specs.List.{flat_map}
use Rattle.f3_lookups.specs.declared.lookup.Lookup.{Lookup}
use Rattle.f3_lookups.specs.declared.lookup.Lookup.TheVariants.{One, Nothing, Several}
use Rattle.f3_scopes.specs.Scopes.{declared_in, result_of}
use Rattle.f3_tree.specs.declared.expression.Name.{Name}
use Rattle.f3_tree.specs.declared.expression.IntegerKind.TheVariants.{Four, Eight}
use Rattle.f3_tree.specs.declared.program.UnitKind.{UnitKind}
use Rattle.f3_tree.specs.declared.program.UnitKind.TheVariants as unit
use Rattle.f3_tree.specs.Declarations.{parameter, save, EntityTree, DeclarationTree, TypeTree, SpecificationTree, declares, defines}
use Rattle.f3_program.specs.declared.declarations.Base.{Base}
use Rattle.f3_program.specs.declared.declarations.Base.TheVariants as base
use Rattle.f3_program.specs.declared.declarations.Kind.{Kind}
use Rattle.f3_program.specs.declared.expression.Name as object
use Rattle.f3_program.specs.declared.expression.Name.TheVariants.{Static, Local, Lent}
use Rattle.f3_kinds.specs.declared.types.DataType.{DataType}
use Rattle.f3_kinds.specs.declared.types.DataType.TheVariants.{Integer, Logical, Derived}
use Rattle.f3_kinds.specs.declared.types.Object.{Object}
use Rattle.f3_kinds.specs.Things.{map_or}
use Rattle.f3_type_rules.specs.Attributes.{has}
use Rattle.f3_type_rules.specs.Declarations.{within_member}
use Rattle.f3_type_rules.specs.Members.{Member, Numbered}
use Rattle.f3_type_rules.specs.Names.{is_given, Declared}
use Rattle.f3_type_rules.specs.Program.{nothing_known}
use Rattle.f3_type_rules.specs.Walks.{is_among}

abbrev pub number_in : List ℕ → (entity : ℕ) → ℕ
number_in es e = map_or 0 (λ n. n) (position (nat_eq e) es)

-- the entity that a name means, where it means one
abbrev pub entity_of : Lookup → ℕ
entity_of (One e) = e
entity_of Nothing = 0
entity_of Several = 0

-- ---- declared names and types with their entities

-- a declared name: its entity, the scopes of its unit and of its declaration
pub record Variable : Type 0 where
  pub entity : ℕ
  pub unit : ℕ
  pub scope : ℕ
  pub tree : Declared

-- a type with its entity and the unit that defines it
pub record Definition : Type 0 where
  pub entity : ℕ
  pub unit : Numbered
  pub tree : TypeTree

abbrev pub declared_from : (unit scope entity : ℕ) → DeclarationTree → List EntityTree → List Variable
declared_from u s e d [] = []
declared_from u s e d (x ∷ xs) = record { entity = e; unit = u; scope = s; tree = (d, x) } ∷ declared_from u s (e + 1) d xs

abbrev pub names_in : (unit scope entity : ℕ) → SpecificationTree → List Variable
names_in u s e (declares d) = declared_from u s e d d.entities
names_in u s e _ = []

abbrev pub types_in : Numbered → (entity : ℕ) → SpecificationTree → List Definition
types_in u e (defines t) = record { entity = e; unit = u; tree = t } ∷ []
types_in u e _ = []

-- along a specification part, with the entity that each statement declares first
abbrev pub along_part : {X : Type 0} → ((entity : ℕ) → SpecificationTree → List X) → (entity : ℕ) → List SpecificationTree → List X
along_part f e [] = []
along_part f e (s ∷ ss) = f e s ++ along_part f (e + length (declared_in s)) ss

abbrev pub unit_names : Numbered → List Variable
unit_names u = along_part (names_in u.scope u.scope) u.first ((u.tree).part).specifications

abbrev pub definitions : Numbered → List Definition
definitions u = along_part (types_in u) u.first ((u.tree).part).specifications

-- behind a result that the header types
abbrev pub member_names : (unit : ℕ) → Member → List Variable
member_names u m = along_part (names_in u m.scope) (within_member m nothing_known).next ((m.tree).part).specifications

-- ---- where variables lie

abbrev pub is_variable : Variable → Bool
is_variable v = not (has parameter (v.tree).0)

-- an initializer saves a variable too (ISO/IEC 1539-1:2004, 5.1, 5.1.2.13)
abbrev pub is_saved : Variable → Bool
is_saved v = has save (v.tree).0 || is_given ((v.tree).1).initial

-- variables of modules live for the whole run (own rule for 16.5.6), those of the program where they are saved
abbrev pub is_static_in : UnitKind → Variable → Bool
is_static_in unit.Module v = is_variable v
is_static_in unit.Program v = is_variable v && is_saved v

abbrev pub unit_statics : Numbered → List Variable
unit_statics u =
    filter (is_static_in (u.tree).kind) (unit_names u)
    ++ flat_map (λ (m : Member). filter (λ v. is_variable v && is_saved v) (member_names u.scope m)) u.members

abbrev pub result_name : Member → List Name
result_name m = map_or [] (λ (n : Name). n ∷ []) (result_of ((m.tree).header).kind ((m.tree).header).name)

-- whether the header names it: a dummy, or the result
abbrev pub is_in_header : Member → Variable → Bool
is_in_header m v = is_among (map (λ (n : Name). n.symbol) (((m.tree).header).dummies ++ result_name m)) (v.tree).1

abbrev pub main_locals : Numbered → List Variable
main_locals u = filter (λ v. is_variable v && not (is_saved v)) (unit_names u)

abbrev pub member_locals : (unit : ℕ) → Member → List Variable
member_locals u m = filter (λ v. is_variable v && (not (is_saved v) && not (is_in_header m v))) (member_names u m)

-- ---- numbers

-- the numbers of the whole program: of variables that live for the whole run, of procedures, and of types
pub record Numbers : Type 0 where
  pub statics : List ℕ
  pub procedures : List ℕ
  pub types : List ℕ

-- Variables and procedures in order of place; types along an order of the units in which used modules come first, so that one stands behind
-- those of its components.
abbrev pub numbers_of : List Numbered → (ordered : List Numbered) → Numbers
numbers_of units ordered = record {
  statics = map (λ (v : Variable). v.entity) (flat_map unit_statics units);
  procedures = flat_map (λ (u : Numbered). map (λ (m : Member). m.entity) u.members) units;
  types = map (λ (d : Definition). d.entity) (flat_map definitions ordered);
}

-- The numbers of a procedure: of the variables of its activations, a function's result behind the others, and of its dummies; or of the
-- main program, which has no dummies. The associate names of open constructs come behind the dummies.
pub record Inner : Type 0 where
  pub variables : List ℕ
  pub lent : List ℕ

abbrev pub numbers_in_member : (look : ℕ → ℕ → Lookup) → (unit : ℕ) → Member → Inner
numbers_in_member look u m = record {
  variables =
      map (λ (v : Variable). v.entity) (member_locals u m) ++ map (λ (n : Name). entity_of (look m.scope n.symbol)) (result_name m);
  lent = map (λ (n : Name). entity_of (look m.scope n.symbol)) ((m.tree).header).dummies;
}

abbrev pub numbers_in_main : Numbered → Inner
numbers_in_main u = record { variables = map (λ (v : Variable). v.entity) (main_locals u); lent = [] }

-- the object that is the entity
abbrev pub name_by : Option ℕ → Option ℕ → (lent : ℕ) → object.Name
name_by (Some i) variable k = Static i
name_by None (Some i) k = Local i
name_by None None k = Lent k

abbrev pub name_of : Numbers → Inner → (entity : ℕ) → object.Name
name_of whole inner e = name_by (position (nat_eq e) whole.statics) (position (nat_eq e) inner.variables) (number_in inner.lent e)

-- ---- types

-- INTEGER where a name has no type
abbrev pub base_by : (type : ℕ → ℕ) → Option DataType → Base
base_by type (Some (Integer Four)) = base.Integer
base_by type (Some (Integer Eight)) = base.Long
base_by type (Some Logical) = base.Logical
base_by type (Some (Derived e)) = base.Derived (type e)
base_by type None = base.Integer

abbrev pub base_of : Numbers → Option DataType → Base
base_of whole t = base_by (number_in whole.types) t

abbrev pub kind_of : Numbers → Object → Kind
kind_of whole o = record { of = base_of whole o.data_type; rank = o.rank; is_allocatable = o.is_allocatable }
