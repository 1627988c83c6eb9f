-- What the entities of a program are, without where they lie in memory, and what a name means where it stands (ISO/IEC 1539-1:2004, 16.2).
use Rattle.std.specs.Prelude.{ℕ, Bool, List, map, nat_eq, position, Option, None, Some, slice_get}
use Rattle.std.specs.Map.{lookup}
use Rattle.f3_lookups.specs.declared.lookup.Lookup.{Lookup}
use Rattle.f3_lookups.specs.declared.lookup.Lookup.TheVariants.{One, Nothing, Several}
use Rattle.f3_kinds.specs.declared.types.Object.{Object}
use Rattle.f3_kinds.specs.declared.types.Scalar.{Scalar}
use Rattle.f3_kinds.specs.declared.things.Component.{Component}
use Rattle.f3_kinds.specs.declared.things.Dummy.{Dummy}
use Rattle.f3_kinds.specs.declared.things.Intrinsic.{Intrinsic}

-- a function of what is there, or else this
abbrev pub map_or : {X Y : Type 0} → Y → (X → Y) → Option X → Y
map_or y f None = y
map_or y f (Some x) = f x

-- What an entity is: of a type, the scope of its module, its components in order, each under its name, and whether it is
-- finalizable; of a procedure, whether it is PURE, and its dummies in order, each under its name; of a function, its result too.
pub data Nature : Type 0 where
  constant : Object → Nature
  variable : Object → Nature
  derived : ℕ → List (ℕ × Component) → Bool → Nature
  subroutine : Bool → List (ℕ × Dummy) → Nature
  function : Bool → List (ℕ × Dummy) → Object → Nature

-- What is known where an expression stands: the unit and the scope that hold it, by their numbers among the scopes; the
-- phase of rules that have two, 5 in a specification part and 6 behind it; the entities that a name has in a scope; the
-- intrinsic procedure of a name, and the names of the dummies FROM and TO of MOVE_ALLOC; what each entity is; and the
-- values of the named constants that may be used here.
pub record Context : Type 0 where
  pub unit : ℕ
  pub scope : ℕ
  pub phase : ℕ
  pub look : ℕ → ℕ → Lookup
  pub intrinsic : ℕ → Option Intrinsic
  pub moving : ℕ × ℕ
  pub nature : ℕ → Option Nature
  pub value : ℕ → Option Scalar

-- the entities that a name has here
abbrev pub look_here : Context → ℕ → Lookup
look_here c symbol = c.look c.scope symbol

-- what a name means: nothing, one of several entities, an intrinsic procedure, or an entity
pub data Meaning : Type 0 where
  nothing : Meaning
  several : Meaning
  intrinsic : Intrinsic → Meaning
  entity : ℕ → Nature → Meaning

abbrev pub entity_or : ℕ → Option Nature → Meaning
entity_or e None = nothing
entity_or e (Some n) = entity e n

-- An intrinsic procedure's name means it where no entity has the name (own rule).
abbrev pub meaning_by : Context → ℕ → Lookup → Meaning
meaning_by c symbol (One e) = entity_or e (c.nature e)
meaning_by c symbol Several = several
meaning_by c symbol Nothing = map_or nothing intrinsic (c.intrinsic symbol)

abbrev pub meaning_of : Context → ℕ → Meaning
meaning_of c symbol = meaning_by c symbol (look_here c symbol)

-- the component of this name
abbrev pub component_of : List (ℕ × Component) → ℕ → Option Component
component_of ks symbol = lookup (nat_eq symbol) ks

-- the place among components or dummies of the one with this name
abbrev pub place_of : {X : Type 0} → List (ℕ × X) → ℕ → Option ℕ
place_of xs symbol = position (nat_eq symbol) (map (λ x. x.0) xs)

-- the one at a place
abbrev pub at_place_of : {X : Type 0} → List (ℕ × X) → ℕ → Option X
at_place_of xs place = map_or None (λ x. Some x.1) (slice_get xs place)
