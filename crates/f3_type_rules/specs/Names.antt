-- Declared names, and what their declarations make of them (ISO/IEC 1539-1:2004, 4.5.3, 5.1).
use Rattle.std.specs.Prelude.{ℕ, Bool, true, false, List, [], ◌∷◌, Option, None, Some, map, length}
use Rattle.std.specs.Prelude.{slice_get}
use Rattle.std.specs.List.{flat_map, list_any}
use Rattle.f3_lookups.specs.declared.lookup.Lookup.{Lookup}
use Rattle.f3_lookups.specs.declared.lookup.Lookup.TheVariants.{One}
use Rattle.f3_scopes.specs.declared.outline.EntityKind.{EntityKind}
use Rattle.f3_scopes.specs.declared.outline.EntityKind.TheVariants as entity
use Rattle.f3_scopes.specs.Scopes.{intent_of as intents}
use Rattle.f3_scopes.specs.Given.{accesses_of}
use Rattle.f3_tree.specs.declared.declaration.Accessibility.{Accessibility}
use Rattle.f3_tree.specs.declared.declaration.Accessibility.TheVariants.{Public, Private}
use Rattle.f3_tree.specs.declared.declaration.Intent.{Intent}
use Rattle.f3_tree.specs.declared.declaration.TypeSpecifier.{TypeSpecifier}
use Rattle.f3_tree.specs.declared.declaration.TypeSpecifier.TheVariants as specifier
use Rattle.f3_tree.specs.Declarations.{ShapeTree, explicit, deferred, AttributeTree, allocatable, dimension, Placed, EntityTree, DeclarationTree}
use Rattle.f3_tree.specs.Declarations.{TypeTree, SpecificationTree, declares}
use Rattle.f3_kinds.specs.declared.types.DataType.{DataType}
use Rattle.f3_kinds.specs.declared.types.DataType.TheVariants.{Integer, Logical, Derived}
use Rattle.f3_kinds.specs.declared.types.Object.{Object}
use Rattle.f3_kinds.specs.declared.things.Component.{Component}
use Rattle.f3_kinds.specs.declared.things.Intrinsic.{Intrinsic}
use Rattle.f3_kinds.specs.Things.{map_or}

-- What is known of the names of a program: the entities that a name has in the scope of a number, what each entity was declared as,
-- the intrinsic procedure of a name, and the names FROM and TO.
pub record Names : Type 0 where
  pub look : ℕ → ℕ → Lookup
  pub kinds : List EntityKind
  pub intrinsic : ℕ → Option Intrinsic
  pub moving : ℕ × ℕ

abbrev pub is_given : {X : Type 0} → Option X → Bool
is_given o = map_or false (λ x. true) o

-- a declared name with its declaration
abbrev pub Declared : Type 0
Declared = DeclarationTree × EntityTree

abbrev pub entries_in : SpecificationTree → List (ℕ × Declared)
entries_in (declares d) = map (λ (x : EntityTree). ((x.name).symbol, (d, x))) d.entities
entries_in _ = []

abbrev pub entries : List SpecificationTree → List (ℕ × Declared)
entries ss = flat_map entries_in ss

abbrev pub last_of : {X : Type 0} → Option X → List X → Option X
last_of o [] = o
last_of o (x ∷ xs) = last_of (Some x) xs

abbrev pub or_else : {X : Type 0} → Option X → Option X → Option X
or_else (Some x) o = Some x
or_else None o = o

abbrev pub attributes_of : DeclarationTree → List AttributeTree
attributes_of d = map (λ (p : Placed). p.attribute) d.attributes

abbrev pub dimension_in : AttributeTree → List ShapeTree
dimension_in (dimension s) = s ∷ []
dimension_in _ = []

abbrev pub is_allocatable : AttributeTree → Bool
is_allocatable allocatable = true
is_allocatable _ = false

-- its own shape, or that of DIMENSION (5.1)
abbrev pub shape_of : Declared → Option ShapeTree
shape_of x = or_else (x.1).shape (last_of None (flat_map dimension_in (attributes_of x.0)))

abbrev pub intent_of : Declared → Option Intent
intent_of x = last_of None (flat_map intents (attributes_of x.0))

abbrev pub dimensions : ShapeTree → ℕ
dimensions (explicit bs) = length bs
dimensions (deferred ls) = length ls

-- the type that a name means, where it means one
abbrev pub type_if : ℕ → Option EntityKind → Option DataType
type_if e (Some entity.DerivedType) = Some (Derived e)
type_if e _ = None

abbrev pub type_named : Names → Lookup → Option DataType
type_named names (One e) = type_if e (slice_get names.kinds e)
type_named names _ = None

abbrev pub type_of : Names → (scope : ℕ) → TypeSpecifier → Option DataType
type_of names scope (specifier.Integer k) = Some (Integer k)
type_of names scope specifier.Logical = Some Logical
type_of names scope (specifier.Derived n) = type_named names (names.look scope n.symbol)

abbrev pub object_of : Names → (scope : ℕ) → Declared → Object
object_of names scope x = record {
  data_type = type_of names scope (x.0).specifier;
  rank = map_or 0 dimensions (shape_of x);
  is_allocatable = list_any is_allocatable (attributes_of x.0);
}

-- of a name that nothing declares, which breaks a rule on names
abbrev pub undeclared : Object
undeclared = record { data_type = None; rank = 0; is_allocatable = false }

-- ---- types (4.5)

-- its own access, or that of its type
abbrev pub is_private_by : Bool → List Accessibility → Bool
is_private_by default [] = default
is_private_by default (Public ∷ others) = false
is_private_by default (Private ∷ others) = true

abbrev pub component : Names → (scope : ℕ) → (is_private : Bool) → DeclarationTree → EntityTree → ℕ × Component
component names scope default d x = (
  (x.name).symbol,
  record {
    object = object_of names scope (d, x);
    is_private = is_private_by default (accesses_of d.attributes);
    is_initialized = is_given x.initial;
  },
)

abbrev pub components : Names → (scope : ℕ) → TypeTree → List (ℕ × Component)
components names scope t = flat_map (λ (d : DeclarationTree). map (component names scope (is_given t.private) d) d.entities) t.components
