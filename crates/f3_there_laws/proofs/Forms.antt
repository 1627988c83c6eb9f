-- Values of one kind have the same parts where nothing is allocatable.
use Rattle.std.proofs.Common.{◌≡◌, ◌∙◌, sym, ap, ℕ, zero, suc, true, false, List, [], ◌∷◌, length, Option, Some, refl, subst, arith}
use Rattle.std.specs.Prelude.{nat_eq, nat_lt, slice_get}
use Rattle.f3_program.specs.declared.declarations.Base.{Base}
use Rattle.f3_program.specs.declared.declarations.Base.TheVariants as base
use Rattle.f3_program.specs.declared.declarations.Component as m
use Rattle.f3_program.specs.declared.declarations.Declared.{Declared}
use Rattle.f3_program.specs.declared.declarations.Derived.{Derived}
use Rattle.f3_program.specs.declared.declarations.Kind.{Kind}
use Rattle.f3_meaning_whole.specs.Value.{Span, Value, Number, Truth, Composite, Array, Unallocated, Allocated, Values, none, more, listed, count}
use Rattle.f3_meaning_whole.specs.Store.{Step, Component, Element, Contents, part, part_at, with_part, with_part_at}
use Rattle.f3_meaning_whole.specs.Act.{component_in, component_of, derived_of}
use Rattle.f3_meaning_whole.specs.Permitted.{same_type}
use Rattle.f3_meaning_whole.specs.Formed.{of_kind, is_scalar}
use Rattle.f3_cell_kinds.specs.Holds.{HasBounds, IsOf, AreComponents, AreElements}
use Rattle.f3_cell_kinds.proofs.Asked.{some_same, and_is, not_is}
use Rattle.f3_cell_kinds.proofs.Scalars.{no_derived, no_rank, no_both}
use Rattle.f3_store_kinds.specs.Typing.{kind_by}
use Rattle.f3_store_kinds.proofs.Ways.{components_as, component_way, element_way, contents_way}

-- a value that is no allocatable's
abbrev pub IsSet : Value → Type 0
IsSet Unallocated = ⊥
IsSet (Allocated v) = ⊥
IsSet v = Unit {0}

-- what is not missing
abbrev pub IsThere : Value → Type 0
IsThere v = v ≡ Unallocated → ⊥

pub set_there : (v : Value) → IsSet v → IsThere v
set_there v h e = subst (λ x. IsSet x) e h

scalar_held : (k : Kind) → is_scalar k ≡ true → k.is_allocatable ≡ false
scalar_held k e = not_is _ (and_is _ _ e).0

scalar_rank : (k : Kind) → is_scalar k ≡ true → nat_eq k.rank 0 ≡ true
scalar_rank k e = (and_is _ _ e).1

-- bounds that are the same where both values are arrays
abbrev pub SameBounds : Value → Value → Type 0
SameBounds (Array ss vs) (Array ts ws) = ss ≡ ts
SameBounds v w = Unit {0}

bounds_same : (d : Declared) (v w : Value) → HasBounds d v → HasBounds d w → SameBounds v w
bounds_same d (Array ss vs) (Array ts ws) h k = h ∙ sym k
bounds_same d v w h k = tt

no_logical : (types : List Derived) (t : Base) (y : Derived) → same_type t base.Logical ≡ true → derived_of types t ≡ Some y → ⊥
no_logical types base.Integer y e f = cc
no_logical types base.Long y e f = cc
no_logical types base.Logical y e f = cc
no_logical types (base.Derived t) y e f = cc

module _ (types : List Derived) where
  -- no component of any type is allocatable
  abbrev pub AreFlat : Type 0
  AreFlat = (of : Base) (n : ℕ) (c : m.Component) → component_of types of n ≡ Some c → c.declared.kind.is_allocatable ≡ false

  pub set_of_kind : (k : Kind) (v : Value) → k.is_allocatable ≡ false → IsOf types k v → IsSet v
  set_of_kind k Unallocated held h = absurd (no_both k.is_allocatable h held)
  set_of_kind k (Allocated v) held h = absurd (no_both k.is_allocatable h.0 held)
  set_of_kind k v held h = tt

  pub held_of_set : (k : Kind) (v : Value) → IsSet v → IsOf types k v → k.is_allocatable ≡ false
  held_of_set k (Number z) s h = scalar_held k (and_is _ _ h.0).0
  held_of_set k (Truth b) s h = scalar_held k (and_is _ _ h).0
  held_of_set k (Composite vs) s h = scalar_held k h.0
  held_of_set k (Array ss vs) s h = h.0
  held_of_set k Unallocated s h = absurd s
  held_of_set k (Allocated v) s h = absurd s

  -- scalars have no bounds
  pub scalars_same : (k : Kind) (v w : Value) → nat_eq k.rank 0 ≡ true → IsOf types k v → SameBounds v w
  scalars_same k (Array ss vs) (Array ts ws) one h = absurd (no_rank k.rank one h.1)
  scalars_same k v w one h = tt

  pub composite_no : (k : Kind) (y : Derived) (x : Value) → is_scalar k ≡ true → derived_of types k.of ≡ Some y → IsOf types k x → (vs : Values) × (x ≡ Composite vs)
  composite_no k y (Composite vs) one e h = (vs, refl)
  composite_no k y (Number z) one e h = absurd (no_derived types k.of y (and_is _ _ h.0).1 e)
  composite_no k y (Truth b) one e h = absurd (no_logical types k.of y (and_is _ _ h).1 e)
  composite_no k y (Array ss vs) one e h = absurd (no_rank k.rank (scalar_rank k one) h.1)
  composite_no k y Unallocated one e h = absurd (no_both k.is_allocatable h (scalar_held k one))
  composite_no k y (Allocated v) one e h = absurd (no_both k.is_allocatable h.0 (scalar_held k one))

  pub array_no : (k : Kind) (x : Value) → k.is_allocatable ≡ false → nat_lt 0 k.rank ≡ true → IsOf types k x → (ss : List Span) × (vs : Values) × (x ≡ Array ss vs)
  array_no k (Array ss vs) held some h = (ss, vs, refl)
  array_no k (Number z) held some h = absurd (no_rank k.rank (scalar_rank k (and_is _ _ h.0).0) some)
  array_no k (Truth b) held some h = absurd (no_rank k.rank (scalar_rank k (and_is _ _ h).0) some)
  array_no k (Composite vs) held some h = absurd (no_rank k.rank (scalar_rank k h.0) some)
  array_no k Unallocated held some h = absurd (no_both k.is_allocatable h held)
  array_no k (Allocated v) held some h = absurd (no_both k.is_allocatable h.0 held)

  module _ (flat : AreFlat) where
    -- ---- values of one kind

    mutual
      pub same_parts : (k : Kind) (v x : Value) (way : List Step) → k.is_allocatable ≡ false → SameBounds v x → IsOf types k v → IsOf types k x → IsThere (part v way) → IsThere (part x way)
      same_parts k v x [] held same h f there = set_there x (set_of_kind k x held f)
      same_parts k (Composite vs) x (Component n ∷ way) held same h f there =
          let q = composite_no k h.1 x h.0 h.2 f in
          let f' : IsOf types k (Composite q.0) = subst (λ y. IsOf types k y) q.1 f in
          let one : f'.1 ≡ h.1 = some_same (sym f'.2 ∙ h.2) in
          let parts = subst (λ (y : Derived). AreComponents types y.components.items q.0) one f'.3 in
          subst (λ y. IsThere (part y (Component n ∷ way))) (sym q.1)
          (same_components h.1.components.items vs q.0 n way (λ j c e. flat k.of j c (ap (λ (o : Option Derived). component_in o j) h.2 ∙ e)) h.3 parts there)
      same_parts k (Array ss vs) x (Element n ∷ way) held same h f there =
          let q = array_no k x h.0 h.1 f in
          let f' : IsOf types k (Array q.0 q.1) = subst (λ y. IsOf types k y) q.2 f in
          let same' : ss ≡ q.0 = subst (λ y. SameBounds (Array ss vs) y) q.2 same in
          subst (λ y. IsThere (part y (Element n ∷ way))) (sym q.2)
          (same_elements (of_kind k.of 0) vs q.1 n way refl refl (h.3 ∙ ap count same' ∙ sym f'.3) h.4 f'.4 there)
      same_parts k (Allocated v) x (Contents ∷ way) held same h f there = absurd (no_both k.is_allocatable h.0 held)
      same_parts k v x (s ∷ way) held same h f there = absurd (there refl)

      same_components : (cs : List m.Component) (vs xs : Values) (n : ℕ) (way : List Step) → ((j : ℕ) (c : m.Component) → slice_get cs j ≡ Some c → c.declared.kind.is_allocatable ≡ false) →
          AreComponents types cs vs → AreComponents types cs xs → IsThere (part_at vs n way) → IsThere (part_at xs n way)
      same_components cs none xs n way held h f there = absurd (there refl)
      same_components [] (more v vs) xs n way held h f there = absurd h
      same_components (c ∷ cs) (more v vs) none n way held h f there = absurd f
      same_components (c ∷ cs) (more v vs) (more x xs) zero way held h f there =
          same_parts c.declared.kind v x way (held 0 c refl) (bounds_same c.declared v x h.1 f.1) h.0 f.0 there
      same_components (c ∷ cs) (more v vs) (more x xs) (suc n) way held h f there = same_components cs vs xs n way (λ j d e. held (suc j) d e) h.2 f.2 there

      same_elements : (k : Kind) (vs xs : Values) (n : ℕ) (way : List Step) → k.is_allocatable ≡ false → nat_eq k.rank 0 ≡ true → length (listed vs) ≡ length (listed xs) →
          AreElements types k vs → AreElements types k xs → IsThere (part_at vs n way) → IsThere (part_at xs n way)
      same_elements k none xs n way held one many h f there = absurd (there refl)
      same_elements k (more v vs) none n way held one many h f there = cc
      same_elements k (more v vs) (more x xs) zero way held one many h f there = same_parts k v x way held (scalars_same k v x one h.0) h.0 f.0 there
      same_elements k (more v vs) (more x xs) (suc n) way held one many h f there = same_elements k vs xs n way held one (omega (arith, many)) h.1 f.1 there

    -- ---- values in which a part is another of its kind

    mutual
      pub with_there : (k j : Kind) (v x : Value) (way w : List Step) → j.is_allocatable ≡ false → nat_eq j.rank 0 ≡ true → IsOf types k v → kind_by types way k ≡ Some j → IsOf types j x →
          IsThere (part v w) → IsThere (part (with_part v way x) w)
      with_there k j v x [] w held one h e f there =
          let h' = subst (λ (z : Kind). IsOf types z v) (some_same e) h in same_parts j v x w held (scalars_same j v x one h') h' f there
      with_there k j (Composite vs) x (Component n ∷ way) (Component i ∷ w) held one h e f there =
          let q = component_way types k j n way e in
          component_there h.1.components.items j vs n q.0 x way i w held one h.3 (components_as types k h.1 n q.0 h.2 q.1) q.2 f there
      with_there k j (Composite vs) x (Component n ∷ way) [] held one h e f there = λ e. cc
      with_there k j (Array ss vs) x (Element n ∷ way) (Element i ∷ w) held one h e f there =
          element_there (of_kind k.of 0) j vs n x way i w held one h.4 (element_way types k j n way e) f there
      with_there k j (Array ss vs) x (Element n ∷ way) [] held one h e f there = λ e. cc
      with_there k j (Allocated v) x (Contents ∷ way) (Contents ∷ w) held one h e f there =
          with_there _ j v x way w held one h.1 (contents_way types k j way e) f there
      with_there k j (Allocated v) x (Contents ∷ way) [] held one h e f there = λ e. cc
      with_there k j (Composite vs) x (Component n ∷ way) (s ∷ w) held one h e f there = absurd (there refl)
      with_there k j (Array ss vs) x (Element n ∷ way) (s ∷ w) held one h e f there = absurd (there refl)
      with_there k j (Allocated v) x (Contents ∷ way) (s ∷ w) held one h e f there = absurd (there refl)
      with_there k j v x (s ∷ way) w held one h e f there = there

      component_there : (cs : List m.Component) (j : Kind) (vs : Values) (n : ℕ) (c : m.Component) (x : Value) (way : List Step) (i : ℕ) (w : List Step) → j.is_allocatable ≡ false →
          nat_eq j.rank 0 ≡ true → AreComponents types cs vs → slice_get cs n ≡ Some c → kind_by types way c.declared.kind ≡ Some j → IsOf types j x →
          IsThere (part_at vs i w) → IsThere (part_at (with_part_at vs n way x) i w)
      component_there [] j vs n c x way i w held one h at e f there = cc
      component_there (y ∷ cs) j none n c x way i w held one h at e f there = absurd h
      component_there (y ∷ cs) j (more v vs) zero c x way zero w held one h at e f there =
          let same : y ≡ c = some_same at in
          with_there y.declared.kind j v x way w held one h.0 (subst (λ (z : m.Component). kind_by types way z.declared.kind ≡ Some j) (sym same) e) f there
      component_there (y ∷ cs) j (more v vs) zero c x way (suc i) w held one h at e f there = there
      component_there (y ∷ cs) j (more v vs) (suc n) c x way zero w held one h at e f there = there
      component_there (y ∷ cs) j (more v vs) (suc n) c x way (suc i) w held one h at e f there = component_there cs j vs n c x way i w held one h.2 at e f there

      element_there : (k j : Kind) (vs : Values) (n : ℕ) (x : Value) (way : List Step) (i : ℕ) (w : List Step) → j.is_allocatable ≡ false → nat_eq j.rank 0 ≡ true →
          AreElements types k vs → kind_by types way k ≡ Some j → IsOf types j x → IsThere (part_at vs i w) → IsThere (part_at (with_part_at vs n way x) i w)
      element_there k j none n x way i w held one h e f there = there
      element_there k j (more v vs) zero x way zero w held one h e f there = with_there k j v x way w held one h.0 e f there
      element_there k j (more v vs) zero x way (suc i) w held one h e f there = there
      element_there k j (more v vs) (suc n) x way zero w held one h e f there = there
      element_there k j (more v vs) (suc n) x way (suc i) w held one h e f there = element_there k j vs n x way i w held one h.1 e f there

    -- ---- kinds of parts

    -- no part is allocatable
    pub part_held : (way : List Step) (k j : Kind) → k.is_allocatable ≡ false → kind_by types way k ≡ Some j → j.is_allocatable ≡ false
    part_held [] k j held e = subst (λ (z : Kind). z.is_allocatable ≡ false) (some_same e) held
    part_held (Component n ∷ way) k j held e = let q = component_way types k j n way e in part_held way q.0.declared.kind j (flat k.of n q.0 q.1) q.2
    part_held (Element n ∷ way) k j held e = part_held way (of_kind k.of 0) j refl (element_way types k j n way e)
    part_held (Contents ∷ way) k j held e = part_held way _ j refl (contents_way types k j way e)
