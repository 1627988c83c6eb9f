-- What statements and expressions do to objects.
use Rattle.std.specs.Prelude.{⊤, ℕ, zero, suc, ◌+◌, ◌*◌, ℤ, pos, ◌+ℤ◌, ◌-ℤ◌, Bool, true, false, ◌&&◌, nat_eq, int_lt, int_le, nat_abs}
use Rattle.std.specs.Prelude.{if◌then◌else◌, List, [], ◌∷◌, ◌++◌, map, flat_map, length, Option, None, Some, unwrap_or, slice_index_or}
use Rattle.std.specs.Prelude.{slice_get}
use Rattle.f3_places.specs.declared.source.Place.{Place}
use Rattle.f3_program.specs.declared.declarations.Base.{Base}
use Rattle.f3_program.specs.declared.declarations.Base.TheVariants as base
use Rattle.f3_program.specs.declared.declarations.Component as m
use Rattle.f3_program.specs.declared.declarations.Declared.{Declared}
use Rattle.f3_program.specs.declared.declarations.Derived.{Derived}
use Rattle.f3_program.specs.declared.expression.Name.{Name}
use Rattle.f3_program.specs.declared.expression.Name.TheVariants as n
use Rattle.f3_program.specs.declared.program.Static as x
use Rattle.f3_program.specs.declared.program.Program.{Program}
use Rattle.f3_meaning_whole.specs.Value.{Span, Value, Composite, Array, Unallocated, Allocated, Values, none, more, joined, cleared, count}
use Rattle.f3_meaning_whole.specs.Value.{shown, from_one, conforms, spread}
use Rattle.f3_meaning_whole.specs.Store.{Store, Root, Static, Local, Path, Component, Element, Contents, within, get}
use Rattle.f3_meaning_whole.specs.Reference.{Right, Define, Read, Maker, Reach, One, Many, Reference, reach_of, paths, held_at}
use Rattle.f3_meaning_whole.specs.declared.run_error.RunError.TheVariants.{SubscriptOutOfBounds, NotAllocated, HeapHasNoRoom, ShapesDiffer, StepIsZero}
use Rattle.f3_meaning_whole.specs.Ran.{Event, Changed, Began, Entered, Ended, Ran, ◌>>=◌, gives, fails, looks, does, asks}
use Rattle.f3_meaning_whole.specs.Arithmetic.{trips, converted}
use Rattle.f3_meaning_whole.specs.Shape.{Shape, Parts, nothing, and, initial_of, initial_declared, spans_declared}

-- what a run is of: the program, and its types as trees
pub record Setting : Type 0 where
  pub program : Program
  pub shapes : List Shape

-- Where a statement is executed: its place (an error's is the first token of the innermost statement at work), its unit, the
-- level of its activation, what is declared of the variables there, the objects of dummies and associate names, all that
-- is lent, and the value of the SELECT CASE around it.
pub record Here : Type 0 where
  pub place : Place
  pub unit : ℕ
  pub level : ℕ
  pub variables : List Declared
  pub names : List Reference
  pub lent : List Reference
  pub selected : Value

-- an argument with its number: a value, or an object
pub data Passed : Type 0 where
  Given : ℕ → Value → Passed
  Lent : ℕ → Reference → Passed

-- what a call of a procedure does, and the value of its result
abbrev pub Calls : Type 0
Calls = Here → ℕ → List Passed → Ran Value

-- ---- the store

-- the objects of a reference take these values, by a statement of a unit
abbrev pub change : Reference → Here → List Value → List Event
change r here vs = Changed (record { reference = r; executing = here.unit }) vs ∷ []

-- the objects of a reference take a value: an array's elements in order, or one for all
abbrev pub set : Reference → Value → Here → Ran ⊤
set r v here = does (λ store. change r here (spread (length (paths r)) v))

-- what is allocated beneath is freed
abbrev pub clear : Reference → Here → Ran ⊤
clear r here = does (λ store. change r here (map (λ p. cleared (get store p)) (paths r)))

-- a statement, or an END, begins
abbrev pub begins : Here → Ran ⊤
begins here = does (λ store. Began (record { store = store; lent = here.lent }) ∷ [])

-- a new level
abbrev pub enter : List Value → Ran ⊤
enter vs = does (λ store. Entered vs ∷ [])

-- a level and all behind it end
abbrev pub leave : ℕ → Ran ⊤
leave level = does (λ store. Ended level ∷ [])

-- Storage is claimed for a copy, a held value, an activation or an assignment; the run ends where it is refused (own rule).
abbrev pub claim : Here → Ran ⊤
claim here = asks >>= λ refused. if refused then fails HeapHasNoRoom here.place else gives tt

abbrev pub needs_storage : Value → Bool
needs_storage (Composite vs) = true
needs_storage (Array ss vs) = true
needs_storage (Allocated v) = true
needs_storage v = false

-- storage for a value of array or derived type, or for an allocated object
abbrev pub claim_for : Value → Here → Ran ⊤
claim_for v here = if needs_storage v then claim here else gives tt

abbrev pub at : Place → Here → Here
at place here = record {
  place = place;
  unit = here.unit;
  level = here.level;
  variables = here.variables;
  names = here.names;
  lent = here.lent;
  selected = here.selected;
}

abbrev pub lending : List Reference → Here → Here
lending rs here = record {
  place = here.place;
  unit = here.unit;
  level = here.level;
  variables = here.variables;
  names = here.names;
  lent = rs ++ here.lent;
  selected = here.selected;
}

-- in a SELECT CASE with this value
abbrev pub selecting : Value → Here → Here
selecting v here = record {
  place = here.place;
  unit = here.unit;
  level = here.level;
  variables = here.variables;
  names = here.names;
  lent = here.lent;
  selected = v;
}

-- in an ASSOCIATE with these names, which lend their objects
abbrev pub associating : List Reference → Here → Here
associating rs here = record {
  place = here.place;
  unit = here.unit;
  level = here.level;
  variables = here.variables;
  names = here.names ++ rs;
  lent = rs ++ here.lent;
  selected = here.selected;
}

-- ---- references

-- the right of a unit to a variable: to define it, but only to read a protected one of another unit (ISO/IEC 1539-1:2004, 5.1.2.12)
abbrev pub right_to : ℕ → Option x.Static → Right
right_to unit None = Define
right_to unit (Some y) = if y.is_protected then (if nat_eq y.home unit then Define else Read) else Define

abbrev pub whole : Root → Path
whole t = record { root = t; steps = [] }

-- the reference to a root of a type that holds a value, by a statement of a unit
abbrev pub to_root : Root → Base → Right → ℕ → Value → Reference
to_root t of right unit v = record { path = whole t; reach = reach_of (whole t) v; of = of; right = right; origin = unit; makers = [] }

-- the type that is declared; checked programs declare each variable that they name
abbrev pub type_of : Option Declared → Base
type_of None = base.Integer
type_of (Some d) = d.kind.of

abbrev pub static_type : Option x.Static → Base
static_type None = base.Integer
static_type (Some y) = y.declared.kind.of

-- what a name means in a statement of a unit
abbrev pub named : Setting → Name → Here → Ran Reference
named g (n.Static i) here = looks
    (λ store. to_root (Static i) (static_type (slice_get g.program.statics.items i))
    (right_to here.unit (slice_get g.program.statics.items i)) here.unit (get store (whole (Static i))))
named g (n.Local i) here = looks
    (λ store. to_root (Local here.level i) (type_of (slice_get here.variables i)) Define here.unit (get store (whole (Local here.level i))))
named g (n.Lent i) here = gives (slice_index_or here.names i (to_root (Local 0 0) base.Integer Read 0 Unallocated))

-- the component of a number of a type
abbrev pub component_in : Option Derived → ℕ → Option m.Component
component_in None k = None
component_in (Some t) k = slice_get t.components.items k

abbrev pub derived_of : List Derived → Base → Option Derived
derived_of types (base.Derived t) = slice_get types t
derived_of types base.Integer = None
derived_of types base.Long = None
derived_of types base.Logical = None

abbrev pub component_of : List Derived → Base → ℕ → Option m.Component
component_of types of k = component_in (derived_of types of) k

abbrev pub base_of : Option m.Component → Base
base_of None = base.Integer
base_of (Some c) = c.declared.kind.of

-- the type of a component of an object of a type
abbrev pub component_type : List Derived → Base → ℕ → Base
component_type types of k = base_of (component_of types of k)

abbrev pub component_reach : Reach → Path → ℕ → Store → Reach
component_reach One p k store = reach_of (within p (Component k)) (get store (within p (Component k)))
component_reach (Many ss ps) p k store = Many (from_one ss) (map (λ q. within q (Component k)) ps)

-- an array's path stays where a component of each element is meant
abbrev pub component_path : Reach → Path → ℕ → Path
component_path One p k = within p (Component k)
component_path (Many ss ps) p k = p

-- a component of an object, or of each element of an array (6.1.2)
abbrev pub component : Setting → ℕ → Maker → Reference → Ran Reference
component g k maker r = looks (λ store. record {
  path = component_path r.reach r.path k;
  reach = component_reach r.reach r.path k store;
  of = component_type g.program.types.items r.of k;
  right = r.right;
  origin = r.origin;
  makers = r.makers ++ record { of = r.of; component = k; maker = maker } ∷ [];
})

-- a reference by the same root and components to another part of the same type
abbrev pub moved : Reference → Path → Reach → Reference
moved r p reach = record { path = p; reach = reach; of = r.of; right = r.right; origin = r.origin; makers = r.makers }

-- what an allocatable holds (6.3.1.1; own rule: an error where it is unallocated)
abbrev pub opened : Reference → Value → Here → Ran Reference
opened r (Allocated v) here = gives (moved r (within r.path Contents) (reach_of (within r.path Contents) v))
opened r v here = fails NotAllocated here.place

abbrev pub contents_by : Reach → Reference → Here → Ran Reference
contents_by One r here = looks (λ store. get store r.path) >>= λ v. opened r v here
contents_by (Many ss ps) r here = fails NotAllocated here.place

abbrev pub contents : Reference → Here → Ran Reference
contents r here = contents_by r.reach r here

-- what stands at a reference: a copy, where it is of array or derived type
abbrev pub read : Reference → Here → Ran Value
read r here = do
  v ← looks (λ store. held_at store r.path r.reach)
  done ← claim_for v here
  gives v

-- ---- elements and sections

-- a subscript, or a triplet whose bounds may be absent
pub data Chosen : Type 0 where
  At : ℤ → Chosen
  Range : Option ℤ → Option ℤ → ℤ → Chosen

abbrev pub end_of : Span → ℤ
end_of s = s.lower +ℤ pos s.extent

abbrev pub stepped : ℕ → ℤ → ℤ → List ℤ
stepped zero z step = []
stepped (suc k) z step = z ∷ stepped k (z +ℤ step) step

-- the subscripts that are selected in a dimension (6.2.2.3.1); absent bounds are those of the dimension as they are stored
abbrev pub subscripts_in : Span → Chosen → List ℤ
subscripts_in s (At z) = z ∷ []
subscripts_in s (Range lower upper step) = stepped (trips (unwrap_or lower s.lower) (unwrap_or upper (end_of s -ℤ pos 1)) step) (unwrap_or lower s.lower) step

abbrev pub is_inside : Span → List ℤ → Bool
is_inside s [] = true
is_inside s (z ∷ zs) = int_le s.lower z && (int_lt z (end_of s) && is_inside s zs)

abbrev pub steps_by_zero : Chosen → Bool
steps_by_zero (At z) = false
steps_by_zero (Range lower upper step) = nat_eq (nat_abs step) 0

abbrev pub some_zero_step : List Chosen → Bool
some_zero_step [] = false
some_zero_step (c ∷ cs) = if steps_by_zero c then true else some_zero_step cs

abbrev pub all_inside : List Span → List Chosen → Bool
all_inside (s ∷ ss) (c ∷ cs) = is_inside s (subscripts_in s c) && all_inside ss cs
all_inside ss cs = true

-- the places of the selected elements in array element order, the first dimension fastest (6.2.2.2)
abbrev pub places_in : List Span → List Chosen → List ℕ
places_in (s ∷ ss) (c ∷ cs) = flat_map (λ k. map (λ z. nat_abs (z -ℤ s.lower) + s.extent * k) (subscripts_in s c)) (places_in ss cs)
places_in ss cs = 0 ∷ []

-- the bounds of what is selected: a dimension for each triplet
abbrev pub spans_in : List Span → List Chosen → List Span
spans_in (s ∷ ss) (At z ∷ cs) = spans_in ss cs
spans_in (s ∷ ss) (Range lower upper step ∷ cs) = record { lower = pos 1; extent = length (subscripts_in s (Range lower upper step)) } ∷ spans_in ss cs
spans_in ss cs = []

-- A step of zero is found before a subscript out of bounds (own rules).
abbrev pub places : List Span → List Chosen → Here → Ran (List ℕ)
places ss cs here = if some_zero_step cs then fails StepIsZero here.place else (if all_inside ss cs then gives (places_in ss cs)
    else fails SubscriptOutOfBounds here.place)

abbrev pub added : Option Path → List Path → List Path
added None ps = ps
added (Some p) ps = p ∷ ps

-- the elements with these places
abbrev pub elements_at : List Path → List ℕ → List Path
elements_at ps [] = []
elements_at ps (k ∷ ks) = added (slice_get ps k) (elements_at ps ks)

abbrev pub first_of : Reference → List Path → Reference
first_of r [] = moved r r.path (Many [] [])
first_of r (p ∷ ps) = moved r p One

-- elements of an array by their places, with the bounds of the section, or one element where it has none
abbrev pub picked : Reference → List Path → List Span → List ℕ → Reference
picked r ps (s ∷ ss) ks = moved r r.path (Many (s ∷ ss) (elements_at ps ks))
picked r ps [] ks = first_of r (elements_at ps ks)

abbrev pub picks : Reference → Reach → List Chosen → Here → Ran Reference
picks r One cs here = gives r
picks r (Many ss ps) cs here = places ss cs here >>= λ ks. gives (picked r ps (spans_in ss cs) ks)

-- an element of the array that a component of each element is
abbrev pub in_each : Reach → List ℕ → Reach
in_each One ks = One
in_each (Many ss ps) ks = Many ss (map (λ p. within p (Element (slice_index_or ks 0 0))) ps)

abbrev pub picks_in_each : List Span → Reference → List Chosen → Here → Ran Reference
picks_in_each ss r cs here = places ss cs here >>= λ ks. gives (moved r r.path (in_each r.reach ks))

-- ---- values of components

abbrev pub passed_at : ℕ → List Passed → Option Passed
passed_at k [] = None
passed_at k (Given i v ∷ ps) = if nat_eq i k then Some (Given i v) else passed_at k ps
passed_at k (Lent i r ∷ ps) = if nat_eq i k then Some (Lent i r) else passed_at k ps

-- a value for an array of bounds or a scalar
abbrev pub laid_out : ℕ → List Span → Value → Value
laid_out zero ss v = v
laid_out (suc rank) ss v = Array ss (joined (spread (count ss) v))

-- a component takes a value as by assignment to a new variable declared like it (own rule for 4.5.9)
unfoldable pub fitted : Declared → Value → Here → Ran Value
fitted d v here =
    if d.kind.is_allocatable then (converted d.kind.of v here.place >>= λ v. gives (Allocated v))
    else (if conforms (spans_declared d.dimensions.items) v
    then (converted d.kind.of v here.place >>= λ v. gives (laid_out d.kind.rank (spans_declared d.dimensions.items) v))
    else fails ShapesDiffer here.place)

-- an unallocated whole allocatable leaves the component unallocated
abbrev pub fitted_contents : Declared → Value → Here → Ran Value
fitted_contents d (Allocated (Array ss vs)) here = fitted d (Array (shown ss) vs) here
fitted_contents d (Allocated v) here = fitted d v here
fitted_contents d v here = gives Unallocated

abbrev pub fitted_argument : Declared → Value → Option Passed → Here → Ran Value
fitted_argument d initial None here = gives initial
fitted_argument d initial (Some (Given k v)) here = fitted d v here
fitted_argument d initial (Some (Lent k r)) here = looks (λ store. get store r.path) >>= λ v. fitted_contents d v here

-- the values of components in the order of their definition; one that is left out has its initial value
abbrev pub structure : Parts → ℕ → List Passed → Here → Ran Values
structure nothing k ps here = gives none
structure (and c s rest) k ps here = do
  v ← fitted_argument c.declared (initial_declared c.declared (initial_of s)) (passed_at k ps) here
  done ← claim_for v here
  vs ← structure rest (suc k) ps here
  gives (more v vs)

abbrev pub components_of : Shape → Parts
components_of (Shape.Record t parts) = parts
components_of s = nothing

-- the values among arguments
abbrev pub given : List Passed → List Value
given [] = []
given (Given k v ∷ ps) = v ∷ given ps
given (Lent k r ∷ ps) = given ps
