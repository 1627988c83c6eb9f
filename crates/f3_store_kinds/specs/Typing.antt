-- Of which kinds the objects of a store are, and where references lead.
use Rattle.std.specs.Prelude.{⊤, ◌≡◌, ◌⊎◌, ◌<◌, ℕ, true, false, nat_lt, if◌then◌else◌}
use Rattle.std.specs.Prelude.{List, [], ◌∷◌, ◌++◌, take, Option, Some, None, slice_get}
use Rattle.f3_program.specs.declared.declarations.Base.{Base}
use Rattle.f3_program.specs.declared.declarations.Component as m
use Rattle.f3_program.specs.declared.declarations.Derived.{Derived}
use Rattle.f3_program.specs.declared.declarations.Kind.{Kind}
use Rattle.f3_meaning_whole.specs.Value.{Value, Unallocated}
use Rattle.f3_meaning_whole.specs.Store.{Store, Root, Static, Local, Path, Step, Component, Element, Contents, within}
use Rattle.f3_meaning_whole.specs.Reference.{Reach, One, Many, Reference}
use Rattle.f3_meaning_whole.specs.Act.{component_of}
use Rattle.f3_meaning_whole.specs.Formed.{found, of_kind, is_scalar}
use Rattle.f3_cell_kinds.specs.Effect.{held_kind}
use Rattle.f3_cell_kinds.specs.Holds.{IsOf}

-- the kinds of what lives for the whole run, and of what lives on each level
pub record Typing : Type 0 where
  pub statics : List Kind
  pub levels : List (List Kind)

-- the kind of an object that is part of no other
abbrev pub kind_at : Typing → Root → Option Kind
kind_at g (Static i) = slice_get g.statics i
kind_at g (Local l i) = found (slice_get g.levels l) (λ (ks : List Kind). slice_get ks i)

-- where this level and all behind it have ended
abbrev pub cut : ℕ → Typing → Typing
cut n g = record { statics = g.statics; levels = take n g.levels }

-- where a level has begun
abbrev pub extended : Typing → List Kind → Typing
extended g ks = record { statics = g.statics; levels = g.levels ++ ks ∷ [] }

-- an object that is on no level from this one on
abbrev pub IsBefore : ℕ → Root → Type 0
IsBefore n (Static i) = ⊤
IsBefore n (Local l i) = l < n

-- of which kind each of the objects is that a reference to one of a kind reaches: itself, or elements of an array
abbrev pub each_kind : Kind → Reach → Kind
each_kind k One = k
each_kind k (Many ss ps) = of_kind k.of 0

-- The kind to which a way leads from an object of a kind, by the declarations on the way, whether it is there or not. An element of what
-- is no array is never there; its kind is told all the same.
abbrev pub kind_by : List Derived → List Step → Kind → Option Kind
kind_by types [] k = Some k
kind_by types (Component n ∷ way) k =
    if is_scalar k then found (component_of types k.of n) (λ (c : m.Component). kind_by types way c.declared.kind) else None
kind_by types (Element n ∷ way) k = if k.is_allocatable then None else kind_by types way (of_kind k.of 0)
kind_by types (Contents ∷ way) k = if k.is_allocatable then kind_by types way (held_kind k) else None

module _ (types : List Derived) where
  -- values of kinds, one of each
  abbrev pub AreOf : List Kind → List Value → Type 0
  AreOf [] [] = ⊤
  AreOf (k ∷ ks) (v ∷ vs) = IsOf types k v × AreOf ks vs
  AreOf ks vs = ⊥

  abbrev pub AreLevels : List (List Kind) → List (List Value) → Type 0
  AreLevels [] [] = ⊤
  AreLevels (ks ∷ kss) (vs ∷ vss) = AreOf ks vs × AreLevels kss vss
  AreLevels kss vss = ⊥

  -- values that are all of one kind
  abbrev pub AllOf : Kind → List Value → Type 0
  AllOf k [] = ⊤
  AllOf k (v ∷ vs) = IsOf types k v × AllOf k vs

  -- A store of these kinds: each object is there, and holds a value of its kind.
  pub record IsTyped (g : Typing) (store : Store) : Type 0 where
    pub statics : AreOf g.statics store.statics
    pub levels : AreLevels g.levels store.levels

  -- the kind of what stands at a path, by its root and the declarations on the way
  abbrev pub kind_of_path : Typing → Path → Option Kind
  kind_of_path g p = found (kind_at g p.root) (kind_by types p.steps)

  abbrev pub LeadsTo : Typing → Kind → Path → Type 0
  LeadsTo g k p = kind_of_path g p ≡ Some k

  abbrev pub AllLeadTo : Typing → Kind → List Path → Type 0
  AllLeadTo g k [] = ⊤
  AllLeadTo g k (p ∷ ps) = LeadsTo g k p × AllLeadTo g k ps

  -- A path where an array stands.
  pub record IsArray (g : Typing) (p : Path) : Type 0 where
    pub kind : Kind
    pub leads : LeadsTo g kind p
    pub whole : kind.is_allocatable ≡ false
    pub many : nat_lt 0 kind.rank ≡ true

  -- to one object of a kind, or to elements of an array of this kind: of scalars of its type
  abbrev pub LeadsBy : Typing → Kind → Path → Reach → Type 0
  LeadsBy g k p One = LeadsTo g k p
  LeadsBy g k p (Many ss ps) = IsArray g p × AllLeadTo g (of_kind k.of 0) ps

  -- A reference leads to an object of a kind.
  abbrev pub Leads : Typing → Kind → Reference → Type 0
  Leads g k r = LeadsBy g k r.path r.reach

  -- to a component of this kind of one object, or of each element of an array
  abbrev pub EachBy : Typing → Kind → Path → Reach → Type 0
  EachBy g k p One = LeadsTo g k p
  EachBy g k p (Many ss ps) = IsArray g p × AllLeadTo g k ps

  abbrev pub EachLeads : Typing → Kind → Reference → Type 0
  EachLeads g k r = EachBy g k r.path r.reach

  -- the component of a number of an object of a type
  abbrev pub IsPart : Typing → Base → ℕ → Path → Type 0
  IsPart g of n p = (q : Path) × (p ≡ within q (Component n)) × LeadsTo g (of_kind of 0) q

  abbrev pub AreParts : Typing → Base → ℕ → List Path → Type 0
  AreParts g of n [] = ⊤
  AreParts g of n (p ∷ ps) = IsPart g of n p × AreParts g of n ps

  -- what is reached of each element of an array is its component of this number
  abbrev pub PartsBy : Typing → Base → ℕ → Reach → Type 0
  PartsBy g of n One = ⊤
  PartsBy g of n (Many ss ps) = AreParts g of n ps

  -- one for each
  abbrev pub AllLead : Typing → List Kind → List Reference → Type 0
  AllLead g [] [] = ⊤
  AllLead g (k ∷ ks) (r ∷ rs) = Leads g k r × AllLead g ks rs
  AllLead g ks rs = ⊥

  -- what is read where nothing may be: a value of the kind, or none
  abbrev pub IsOrNone : Kind → Value → Type 0
  IsOrNone k v = (v ≡ Unallocated) ⊎ IsOf types k v

  abbrev pub AllOrNone : Kind → List Value → Type 0
  AllOrNone k [] = ⊤
  AllOrNone k (v ∷ vs) = IsOrNone k v × AllOrNone k vs
