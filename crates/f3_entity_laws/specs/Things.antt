-- What declares the entities of a program, in the order of their numbers.
use Rattle.std.specs.Prelude.{◌≡◌, ℕ, ◌+◌, Bool, false, List, [], ◌∷◌, ◌++◌, None, Some, map, slice_get}
use Rattle.std.specs.List.{flat_map}
use Rattle.f3_access.specs.Access.{first_entity}
use Rattle.f3_scopes.specs.declared.outline.EntityKind.TheVariants.{Variable}
use Rattle.f3_scopes.specs.declared.outline.ScopeKind.TheVariants.{Associate}
use Rattle.f3_scopes.specs.Outlines.{Own, Scope}
use Rattle.f3_scopes.specs.Scopes.{own, plain, type_own, association_own, procedure_own, scope_of_unit, scope_of_procedure, name_or, outcome_of}
use Rattle.f3_tree.specs.declared.declaration.TypeSpecifier.{TypeSpecifier}
use Rattle.f3_tree.specs.Declarations.{EntityTree, TypeTree, SpecificationTree, declares, defines}
use Rattle.f3_tree.specs.Statements.{AssociationTree, Block}
use Rattle.f3_kinds.specs.Things.{map_or, Nature, variable, derived}
use Rattle.f3_type_rules.specs.declared.definition.Holder.{Holder}
use Rattle.f3_type_rules.specs.Associates.{constructs_of_block}
use Rattle.f3_type_rules.specs.Members.{Member, Numbered}
use Rattle.f3_type_rules.specs.Names.{Names, Declared, undeclared, components}
use Rattle.f3_type_rules.specs.Natures.{declared_nature, procedure_nature, specifier_of, typed_object}
use Rattle.f3_type_rules.specs.Scene.{holder}

-- where specifications and a body stand: in a unit itself, or in one of its procedures
pub data Home : Type 0 where
  of_unit : Numbered → Home
  of_member : Numbered → Member → Home

abbrev pub unit_in : Home → Numbered
unit_in (of_unit u) = u
unit_in (of_member u m) = u

-- the number of its scope
abbrev pub number_of : Home → ℕ
number_of (of_unit u) = u.scope
number_of (of_member u m) = m.scope

abbrev pub scope_at : Home → Scope
scope_at (of_unit u) = scope_of_unit u.tree
scope_at (of_member u m) = scope_of_procedure u.scope m.tree

abbrev pub specifications_of : Home → List SpecificationTree
specifications_of (of_unit u) = ((u.tree).part).specifications
specifications_of (of_member u m) = ((m.tree).part).specifications

abbrev pub body_of : Home → Block
body_of (of_unit u) = (u.tree).body
body_of (of_member u m) = (m.tree).body

-- What declares an entity: a declared name, a type definition, a procedure of a unit, a type before FUNCTION, which declares the result, or
-- an association of the construct of this number.
pub data Thing : Type 0 where
  name : Home → Declared → Thing
  type : Home → TypeTree → Thing
  procedure : Numbered → Member → Thing
  result : Numbered → Member → TypeSpecifier → Thing
  associate : Home → (scope : ℕ) → AssociationTree → Thing

-- ---- all of a program, in order

abbrev pub things_in : Home → SpecificationTree → List Thing
things_in h (declares d) = map (λ (x : EntityTree). name h (d, x)) d.entities
things_in h (defines t) = type h t ∷ []
things_in h _ = []

abbrev pub part_things : Home → List Thing
part_things h = flat_map (things_in h) (specifications_of h)

-- constructs one behind another, where the first has this number
abbrev pub construct_things : Home → (number : ℕ) → List (List AssociationTree) → List Thing
construct_things h n [] = []
construct_things h n (xs ∷ xss) = map (λ (x : AssociationTree). associate h n x) xs ++ construct_things h (n + 1) xss

abbrev pub body_things : Home → List Thing
body_things h = construct_things h (number_of h + 1) (constructs_of_block (body_of h))

abbrev pub result_things : Numbered → Member → List Thing
result_things u m = map_or [] (λ (s : TypeSpecifier). result u m s ∷ []) (specifier_of ((m.tree).header).kind)

abbrev pub member_things : Numbered → Member → List Thing
member_things u m = result_things u m ++ (part_things (of_member u m) ++ body_things (of_member u m))

abbrev pub unit_things : Numbered → List Thing
unit_things u =
    part_things (of_unit u) ++ (map (λ (m : Member). procedure u m) u.members ++ (body_things (of_unit u) ++ flat_map (member_things u) u.members))

abbrev pub things_of : List Numbered → List Thing
things_of us = flat_map unit_things us

-- ---- what the scopes declare by them

-- the number of the scope that declares it
abbrev pub scope_of : Thing → ℕ
scope_of (name h x) = number_of h
scope_of (type h t) = number_of h
scope_of (procedure u m) = u.scope
scope_of (result u m s) = m.scope
scope_of (associate h n x) = n

abbrev pub own_of : Thing → Own
own_of (name h x) = own (x.0).attributes x.1
own_of (type h t) = type_own t
own_of (procedure u m) = procedure_own m.tree
own_of (result u m s) = plain Variable (name_or (outcome_of ((m.tree).header).kind) ((m.tree).header).name)
own_of (associate h n x) = association_own x

abbrev pub symbol_of : Thing → ℕ
symbol_of g = ((own_of g).name).symbol

-- a construct's scope has no PROTECTED statement
abbrev pub IsScopeOf : Thing → Scope → Type 0
IsScopeOf (name h x) s = s ≡ scope_at h
IsScopeOf (type h t) s = s ≡ scope_at h
IsScopeOf (procedure u m) s = s ≡ scope_of_unit u.tree
IsScopeOf (result u m o) s = s ≡ scope_of_procedure u.scope m.tree
IsScopeOf (associate h n x) s = (s.kind ≡ Associate) × (s.protects ≡ [])

-- the scope of this number declares it at this place, as the entity of this number
pub record Stands (scopes : List Scope) (g : Thing) (entity : ℕ) : Type 0 where
  pub scope : Scope
  pub place : ℕ
  pub there : slice_get scopes (scope_of g) ≡ Some scope
  pub is : IsScopeOf g scope
  pub declared : slice_get scope.declared place ≡ Some (own_of g)
  pub number : first_entity scopes (scope_of g) + place ≡ entity

-- ---- what the rules on types and definitions know of them

-- of a type this is its flag: whether it is finalizable
abbrev pub nature_of : Names → (is_finalizable : Bool) → Thing → Nature
nature_of names f (name h x) = declared_nature names (number_of h) x.0 x.1
nature_of names f (type h t) = derived (number_of h) (components names (number_of h) t) f
nature_of names f (procedure u m) = procedure_nature names m
nature_of names f (result u m s) = variable (typed_object names m.scope s)
nature_of names f (associate h n x) = variable undeclared

-- nothing is asked of associate names
abbrev pub IsHolderOf : Thing → Holder → Type 0
IsHolderOf (name h x) k = k ≡ holder (number_of h) (scope_at h) (own (x.0).attributes x.1)
IsHolderOf (type h t) k = k ≡ holder (number_of h) (scope_at h) (type_own t)
IsHolderOf (procedure u m) k = k ≡ holder u.scope (scope_of_unit u.tree) (procedure_own m.tree)
IsHolderOf (result u m s) k = k ≡ holder m.scope (scope_of_procedure u.scope m.tree) (own_of (result u m s))
IsHolderOf (associate h n x) k = (k.scope ≡ n) × (k.is_protected ≡ false) × (k.intent ≡ None)

-- ---- of which parts of the program they are

abbrev pub IsAmong : {X : Type 0} → List X → X → Type 0
IsAmong xs x = (i : ℕ) × (slice_get xs i ≡ Some x)

abbrev pub IsHome : List Numbered → Home → Type 0
IsHome us (of_unit u) = IsAmong us u
IsHome us (of_member u m) = IsAmong us u × IsAmong u.members m

abbrev pub IsOf : List Numbered → Thing → Type 0
IsOf us (name h x) = IsHome us h × IsAmong (specifications_of h) (declares x.0) × IsAmong (x.0).entities x.1
IsOf us (type h t) = IsHome us h × IsAmong (specifications_of h) (defines t)
IsOf us (procedure u m) = IsHome us (of_member u m)
IsOf us (result u m s) = IsHome us (of_member u m) × (specifier_of ((m.tree).header).kind ≡ Some s)
IsOf us (associate h n x) =
    IsHome us h × (xs : List AssociationTree) × (k : ℕ) × (slice_get (constructs_of_block (body_of h)) k ≡ Some xs) × IsAmong xs x
    × (n ≡ number_of h + 1 + k)
