-- Parts of values are of the kinds to which their ways lead, and so are values in which a part is another.
use Rattle.std.proofs.Common.{◌≡◌, ◌∙◌, sym, ap, ℕ, zero, suc, Bool, true, false, ◌&&◌, ◌||◌, not, ◌⊎◌, inl, inr, List, [], ◌∷◌, length, Option, Some, None, refl, subst, if◌then◌else◌}
use Rattle.std.specs.Prelude.{nat_eq, nat_lt, slice_get}
use Rattle.f3_program.specs.declared.declarations.Component as m
use Rattle.f3_program.specs.declared.declarations.Declared.{Declared}
use Rattle.f3_program.specs.declared.declarations.Derived.{Derived}
use Rattle.f3_program.specs.declared.declarations.Kind.{Kind}
use Rattle.f3_meaning_whole.specs.Value.{Value, Composite, Array, Unallocated, Allocated, Values, none, more, listed}
use Rattle.f3_meaning_whole.specs.Store.{Step, Component, Element, Contents, part, part_at, with_part, with_part_at}
use Rattle.f3_meaning_whole.specs.Act.{component_of, derived_of}
use Rattle.f3_meaning_whole.specs.Formed.{found, of_kind, is_scalar}
use Rattle.f3_cell_kinds.specs.Effect.{held_kind}
use Rattle.f3_cell_kinds.specs.Holds.{is_one, HasBounds, IsOf, AreComponents, AreElements}
use Rattle.f3_cell_kinds.specs.Ways.{kind_along}
use Rattle.f3_cell_kinds.proofs.Asked.{some_same, found_is}
use Rattle.f3_cell_kinds.proofs.Parting.{component_found}
use Rattle.f3_cell_kinds.proofs.Scalars.{no_rank}

module _ (types : List Derived) where
  -- a part is there and of its kind, or it is not there
  abbrev pub IsPartOf : Kind → Value → Type 0
  IsPartOf j v = (v ≡ Unallocated) ⊎ IsOf types j v

  same_count : (vs : Values) (n : ℕ) (way : List Step) (x : Value) → length (listed (with_part_at vs n way x)) ≡ length (listed vs)
  same_count none n way x = refl
  same_count (more v vs) zero way x = refl
  same_count (more v vs) (suc n) way x = ap suc (same_count vs n way x)

  -- the components of a type, from its declaration
  components_as : (k : Kind) (y : Derived) (n : ℕ) (c : m.Component) → derived_of types k.of ≡ Some y → component_of types k.of n ≡ Some c → slice_get y.components.items n ≡ Some c
  components_as k y n c e f =
      let g = component_found (derived_of types k.of) n c f in
      let same : g.0 ≡ y = some_same (sym g.1 ∙ e) in
      subst (λ (z : Derived). slice_get z.components.items n ≡ Some c) same g.2

  if_is : (b : Bool) (x : Option Kind) (y : Kind) → (if b then x else None) ≡ Some y → x ≡ Some y
  if_is true x y e = e
  if_is false x y e = cc

  component_way : (k j : Kind) (n : ℕ) (way : List Step) → kind_along types (Component n ∷ way) k ≡ Some j →
      (c : m.Component) × (component_of types k.of n ≡ Some c) × (kind_along types way c.declared.kind ≡ Some j)
  component_way k j n way e =
      let f = if_is (is_scalar k) (found (component_of types k.of n) (λ (c : m.Component). kind_along types way c.declared.kind)) j e in
      found_is (component_of types k.of n) (λ (c : m.Component). kind_along types way c.declared.kind) j f

  element_way : (k j : Kind) (n : ℕ) (way : List Step) → kind_along types (Element n ∷ way) k ≡ Some j → kind_along types way (of_kind k.of 0) ≡ Some j
  element_way k j n way e = if_is (not k.is_allocatable && nat_lt 0 k.rank) (kind_along types way (of_kind k.of 0)) j e

  contents_way : (k j : Kind) (way : List Step) → kind_along types (Contents ∷ way) k ≡ Some j → kind_along types way (held_kind k) ≡ Some j
  contents_way k j way e = if_is k.is_allocatable (kind_along types way (held_kind k)) j e

  mutual
    pub part_is : (k j : Kind) (v : Value) (way : List Step) → IsOf types k v → kind_along types way k ≡ Some j → IsPartOf j (part v way)
    part_is k j v [] h e = inr (subst (λ (z : Kind). IsOf types z v) (some_same e) h)
    part_is k j (Composite vs) (Component n ∷ way) h e =
        let q = component_way k j n way e in
        component_part h.1.components.items j vs n q.0 way h.3 (components_as k h.1 n q.0 h.2 q.1) q.2
    part_is k j (Array ss vs) (Element n ∷ way) h e = element_part (of_kind k.of 0) j vs n way h.4 (element_way k j n way e)
    part_is k j (Allocated v) (Contents ∷ way) h e = part_is (held_kind k) j v way h.1 (contents_way k j way e)
    part_is k j v (s ∷ way) h e = inl refl

    component_part : (cs : List m.Component) (j : Kind) (vs : Values) (n : ℕ) (c : m.Component) (way : List Step) → AreComponents types cs vs → slice_get cs n ≡ Some c →
        kind_along types way c.declared.kind ≡ Some j → IsPartOf j (part_at vs n way)
    component_part [] j vs n c way h at e = cc
    component_part (x ∷ cs) j none n c way h at e = absurd h
    component_part (x ∷ cs) j (more v vs) zero c way h at e =
        let same : x ≡ c = some_same at in
        part_is c.declared.kind j v way (subst (λ (z : m.Component). IsOf types z.declared.kind v) same h.0) e
    component_part (x ∷ cs) j (more v vs) (suc n) c way h at e = component_part cs j vs n c way h.2 at e

    element_part : (k j : Kind) (vs : Values) (n : ℕ) (way : List Step) → AreElements types k vs → kind_along types way k ≡ Some j → IsPartOf j (part_at vs n way)
    element_part k j none n way h e = inl refl
    element_part k j (more v vs) zero way h e = part_is k j v way h.0 e
    element_part k j (more v vs) (suc n) way h e = element_part k j vs n way h.1 e

  -- bounds of components, where a part of them is another one
  pub one_bounds : (d : Declared) (j : Kind) (x : Value) → is_one j ≡ true → IsOf types j x → HasBounds d x
  one_bounds d j (Array ss vs) one h = absurd (no_rank j.rank (ap (λ (b : Bool). b || nat_eq j.rank 0) (sym h.0) ∙ one) h.1)
  one_bounds d j x one h = tt

  pub with_bounds : (d : Declared) (j : Kind) (v x : Value) (way : List Step) → is_one j ≡ true → IsOf types j x → HasBounds d v → HasBounds d (with_part v way x)
  with_bounds d j v x [] one f h = one_bounds d j x one f
  with_bounds d j (Composite vs) x (Component n ∷ way) one f h = tt
  with_bounds d j (Array ss vs) x (Element n ∷ way) one f h = h
  with_bounds d j (Allocated v) x (Contents ∷ way) one f h = tt
  with_bounds d j v x (s ∷ way) one f h = h

  mutual
    pub changed_is : (k j : Kind) (v x : Value) (way : List Step) → IsOf types k v → kind_along types way k ≡ Some j → is_one j ≡ true → IsOf types j x → IsOf types k (with_part v way x)
    changed_is k j v x [] h e one f = subst (λ (z : Kind). IsOf types z x) (sym (some_same e)) f
    changed_is k j (Composite vs) x (Component n ∷ way) h e one f =
        let q = component_way k j n way e in
        (h.0, h.1, h.2, component_changed h.1.components.items j vs n q.0 x way h.3 (components_as k h.1 n q.0 h.2 q.1) q.2 one f)
    changed_is k j (Array ss vs) x (Element n ∷ way) h e one f =
        (h.0, h.1, h.2, same_count vs n way x ∙ h.3, element_changed (of_kind k.of 0) j vs n x way h.4 (element_way k j n way e) one f)
    changed_is k j (Allocated v) x (Contents ∷ way) h e one f = (h.0, changed_is (held_kind k) j v x way h.1 (contents_way k j way e) one f)
    changed_is k j v x (s ∷ way) h e one f = h

    component_changed : (cs : List m.Component) (j : Kind) (vs : Values) (n : ℕ) (c : m.Component) (x : Value) (way : List Step) → AreComponents types cs vs → slice_get cs n ≡ Some c →
        kind_along types way c.declared.kind ≡ Some j → is_one j ≡ true → IsOf types j x → AreComponents types cs (with_part_at vs n way x)
    component_changed [] j vs n c x way h at e one f = cc
    component_changed (y ∷ cs) j none n c x way h at e one f = absurd h
    component_changed (y ∷ cs) j (more v vs) zero c x way h at e one f =
        let same : y ≡ c = some_same at in
        (changed_is y.declared.kind j v x way h.0 (subst (λ (z : m.Component). kind_along types way z.declared.kind ≡ Some j) (sym same) e) one f, with_bounds y.declared j v x way one f h.1, h.2)
    component_changed (y ∷ cs) j (more v vs) (suc n) c x way h at e one f = (h.0, h.1, component_changed cs j vs n c x way h.2 at e one f)

    element_changed : (k j : Kind) (vs : Values) (n : ℕ) (x : Value) (way : List Step) → AreElements types k vs → kind_along types way k ≡ Some j → is_one j ≡ true → IsOf types j x →
        AreElements types k (with_part_at vs n way x)
    element_changed k j none n x way h e one f = tt
    element_changed k j (more v vs) zero x way h e one f = (changed_is k j v x way h.0 e one f, h.1)
    element_changed k j (more v vs) (suc n) x way h e one f = (h.0, element_changed k j vs n x way h.1 e one f)
