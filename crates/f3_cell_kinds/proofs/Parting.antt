-- Parts of values, and the references to them.
use Rattle.std.proofs.Common.{◌≡◌, ◌∙◌, sym, ap, ℕ, zero, suc, Bool, true, false, ◌||◌, List, [], ◌∷◌, ◌++◌, map, length, Option, Some, None, refl, subst, if◌then◌else◌}
use Rattle.std.specs.Prelude.{nat_eq, slice_get}
use Rattle.f3_program.specs.declared.declarations.Base.{Base}
use Rattle.f3_program.specs.declared.declarations.Base.TheVariants as base
use Rattle.f3_program.specs.declared.declarations.Component as m
use Rattle.f3_program.specs.declared.declarations.Derived.{Derived}
use Rattle.f3_program.specs.declared.declarations.Kind.{Kind}
use Rattle.f3_meaning_whole.specs.Value.{Value, Number, Truth, Composite, Array, Unallocated, Allocated, Values, none, more}
use Rattle.f3_meaning_whole.specs.Store.{Store, Step, Component, Element, Contents, Path, part, part_at, get, within}
use Rattle.f3_meaning_whole.specs.Reference.{Reach, One, Many, held_at}
use Rattle.f3_meaning_whole.specs.Act.{component_in, component_of, component_type, derived_of, base_of, component_reach}
use Rattle.f3_meaning_whole.specs.Permitted.{same_type}
use Rattle.f3_meaning_whole.specs.Formed.{of_kind, is_scalar, only}
use Rattle.f3_cell_kinds.specs.Holds.{Reaches, IsOf, AreComponents}
use Rattle.f3_cell_kinds.proofs.Asked.{some_same, only_is, and_is}
use Rattle.f3_cell_kinds.proofs.Scalars.{same_length, same_count, no_derived, no_rank, no_both}
use Rattle.f3_cell_kinds.proofs.Reaching.{reach_is}

-- ---- parts, one behind another

pub missing : (way : List Step) → part Unallocated way ≡ Unallocated
missing [] = refl
missing (s ∷ way) = refl

mutual
  pub part_append : (v : Value) (a b : List Step) → part v (a ++ b) ≡ part (part v a) b
  part_append v [] b = refl
  part_append (Composite vs) (Component n ∷ a) b = part_at_append vs n a b
  part_append (Array ss vs) (Element n ∷ a) b = part_at_append vs n a b
  part_append (Allocated v) (Contents ∷ a) b = part_append v a b
  part_append v (s ∷ a) b = sym (missing b)

  part_at_append : (vs : Values) (n : ℕ) (a b : List Step) → part_at vs n (a ++ b) ≡ part (part_at vs n a) b
  part_at_append none n a b = sym (missing b)
  part_at_append (more v vs) zero a b = part_append v a b
  part_at_append (more v vs) (suc n) a b = part_at_append vs n a b

-- ---- components

pub component_found : (o : Option Derived) (n : ℕ) (c : m.Component) → component_in o n ≡ Some c → (y : Derived) × (o ≡ Some y) × (slice_get y.components.items n ≡ Some c)
component_found None n c e = cc
component_found (Some y) n c e = (y, refl, e)

no_logical : (types : List Derived) (t : Base) (y : Derived) → same_type t base.Logical ≡ true → derived_of types t ≡ Some y → ⊥
no_logical types base.Integer y e f = cc
no_logical types base.Long y e f = cc
no_logical types base.Logical y e f = cc
no_logical types (base.Derived t) y e f = cc

pub mapped_length : {A B : Type 0} (f : A → B) (xs : List A) → length (map f xs) ≡ length xs
mapped_length f [] = refl
mapped_length f (x ∷ xs) = ap suc (mapped_length f xs)

no_less : (n : ℕ) → nat_eq n 0 ≡ false → nat_eq n 0 ≡ true → ⊥
no_less n e f = no_both (nat_eq n 0) f e

module _ (types : List Derived) where
  pub component_is : (cs : List m.Component) (vs : Values) (n : ℕ) (c : m.Component) → AreComponents types cs vs → slice_get cs n ≡ Some c → IsOf types c.declared.kind (part_at vs n [])
  component_is [] vs n c are e = cc
  component_is (x ∷ cs) none n c are e = absurd are
  component_is (x ∷ cs) (more v vs) zero c are e = let same : x ≡ c = cc in subst (λ (y : m.Component). IsOf types y.declared.kind v) same are.0
  component_is (x ∷ cs) (more v vs) (suc n) c are e = component_is cs vs n c are.2 e

  -- a component of a value of a derived type
  pub part_of : (k : Kind) (v : Value) (n : ℕ) (c : m.Component) → k.is_allocatable ≡ false → nat_eq k.rank 0 ≡ true → component_of types k.of n ≡ Some c → IsOf types k v →
      IsOf types c.declared.kind (part v (Component n ∷ []))
  part_of k (Composite vs) n c held one e h =
      let f = component_found (derived_of types k.of) n c e in
      let same : h.1 ≡ f.0 = some_same (sym h.2 ∙ f.1) in
      component_is f.0.components.items vs n c (subst (λ (y : Derived). AreComponents types y.components.items vs) same h.3) f.2
  part_of k (Number z) n c held one e h =
      let f = component_found (derived_of types k.of) n c e in absurd (no_derived types k.of f.0 (and_is _ _ h.0).1 f.1)
  part_of k (Truth b) n c held one e h =
      let f = component_found (derived_of types k.of) n c e in absurd (no_logical types k.of f.0 (and_is _ _ h).1 f.1)
  part_of k (Array ss vs) n c held one e h = absurd (no_rank k.rank one h.1)
  part_of k Unallocated n c held one e h = absurd (no_both k.is_allocatable h held)
  part_of k (Allocated v) n c held one e h = absurd (no_both k.is_allocatable h.0 held)

  one_rank : (k : Kind) → k.is_allocatable ≡ false → Reaches k One → nat_eq k.rank 0 ≡ true
  one_rank k held h = ap (λ (b : Bool). b || nat_eq k.rank 0) (sym held) ∙ h

  -- what is reached by a component of an object: that of one, or of each element of an array
  pub component_reaches : (k : Kind) (reach : Reach) (p : Path) (n : ℕ) (c : m.Component) (store : Store) → k.is_allocatable ≡ false → component_of types k.of n ≡ Some c →
      Reaches k reach → IsOf types k (held_at store p reach) →
      (nat_eq k.rank 0 ≡ true → Reaches c.declared.kind (component_reach reach p n store))
      × (nat_eq k.rank 0 ≡ false → Reaches (of_kind c.declared.kind.of k.rank) (component_reach reach p n store))
  component_reaches k One p n c store held e h is =
      let one = one_rank k held h in
      let way = part_append (get store (record { root = p.root; steps = [] })) p.steps (Component n ∷ []) in
      let v = part_of k (get store p) n c held one e is in
      let there : IsOf types c.declared.kind (get store (within p (Component n))) = subst (λ (x : Value). IsOf types c.declared.kind x) (sym way) v in
      ((λ t. reach_is types c.declared.kind (within p (Component n)) _ there), λ t. absurd (no_less k.rank t one))
  component_reaches k (Many ss ps) p n c store held e h is = (
    (λ t. absurd (no_rank k.rank t h.1)),
    λ t. (refl, h.1, same_length types ss ∙ h.2, mapped_length _ ps ∙ h.3 ∙ sym (same_count types ss)),
  )

  -- its type
  pub component_base : (of : Base) (n : ℕ) (c : m.Component) → component_of types of n ≡ Some c → component_type types of n ≡ c.declared.kind.of
  component_base of n c e = ap base_of e

  pub part_by : (b : Bool) (k : Kind) (c : Kind) (j : Kind) (of : Base) (reach : Reach) → of ≡ c.of → (b ≡ true → Reaches c reach) → (b ≡ false → Reaches (of_kind c.of k.rank) reach) →
      (if b then Some c else only (is_scalar c) (of_kind c.of k.rank)) ≡ Some j → (of ≡ j.of) × Reaches j reach
  part_by true k c j of reach same h f e = subst (λ (z : Kind). (of ≡ z.of) × Reaches z reach) (some_same e) (same, h refl)
  part_by false k c j of reach same h f e = subst (λ (z : Kind). (of ≡ z.of) × Reaches z reach) (only_is _ _ j e).1 (same, f refl)
