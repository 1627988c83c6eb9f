-- Ways lead to kinds as the declarations of arrays say too, where they lead to anything.
use Rattle.std.proofs.Common.{◌≡◌, ◌∙◌, ap, ℕ, zero, suc, Bool, true, false, ◌&&◌, not, ◌⊎◌, inl, inr, List, [], ◌∷◌, Option, Some, None, refl, subst, if◌then◌else◌}
use Rattle.std.specs.Prelude.{nat_lt, slice_get}
use Rattle.f3_program.specs.declared.declarations.Component as m
use Rattle.f3_program.specs.declared.declarations.Derived.{Derived}
use Rattle.f3_program.specs.declared.declarations.Kind.{Kind}
use Rattle.f3_meaning_whole.specs.Value.{Value, Composite, Array, Unallocated, Allocated, Values, none, more}
use Rattle.f3_meaning_whole.specs.Store.{Step, Component, Element, Contents, part, part_at}
use Rattle.f3_meaning_whole.specs.Act.{component_of}
use Rattle.f3_meaning_whole.specs.Formed.{found, of_kind, is_scalar}
use Rattle.f3_cell_kinds.specs.Effect.{held_kind}
use Rattle.f3_cell_kinds.specs.Holds.{IsOf, AreComponents, AreElements}
use Rattle.f3_cell_kinds.specs.Ways.{kind_along}
use Rattle.f3_cell_kinds.proofs.Asked.{some_same}
use Rattle.f3_store_kinds.specs.Typing.{kind_by}
use Rattle.f3_store_kinds.specs.Laws.{WaysAgree}
use Rattle.f3_store_kinds.proofs.Ways.{components_as, component_way, element_way, contents_way}

first_so : {A B C : Type 0} → (A → B) → A ⊎ C → B ⊎ C
first_so f (inl e) = inl (f e)
first_so f (inr e) = inr e

module _ (types : List Derived) where
  -- ---- what arrays are declared to be is asked for by one alone

  component_to : (b : Bool) (o : Option m.Component) (way : List Step) (j : Kind) →
      ((c : m.Component) → kind_along types way c.declared.kind ≡ Some j → kind_by types way c.declared.kind ≡ Some j) →
      (if b then found o (λ (c : m.Component). kind_along types way c.declared.kind) else None) ≡ Some j →
      (if b then found o (λ (c : m.Component). kind_by types way c.declared.kind) else None) ≡ Some j
  component_to false o way j f e = cc
  component_to true None way j f e = cc
  component_to true (Some c) way j f e = f c e

  element_to : (a b : Bool) (x y : Option Kind) (j : Kind) → (x ≡ Some j → y ≡ Some j) → (if not a && b then x else None) ≡ Some j → (if a then None else y) ≡ Some j
  element_to true b x y j f e = cc
  element_to false true x y j f e = f e
  element_to false false x y j f e = cc

  contents_to : (a : Bool) (x y : Option Kind) (j : Kind) → (x ≡ Some j → y ≡ Some j) → (if a then x else None) ≡ Some j → (if a then y else None) ≡ Some j
  contents_to true x y j f e = f e
  contents_to false x y j f e = cc

  along_by : (way : List Step) (k j : Kind) → kind_along types way k ≡ Some j → kind_by types way k ≡ Some j
  along_by [] k j e = e
  along_by (Component n ∷ way) k j e = component_to (is_scalar k) (component_of types k.of n) way j (λ c f. along_by way c.declared.kind j f) e
  along_by (Element n ∷ way) k j e = element_to k.is_allocatable (nat_lt 0 k.rank) (kind_along types way (of_kind k.of 0)) (kind_by types way (of_kind k.of 0)) j
      (λ f. along_by way (of_kind k.of 0) j f) e
  along_by (Contents ∷ way) k j e = contents_to k.is_allocatable (kind_along types way (held_kind k)) (kind_by types way (held_kind k)) j (λ f. along_by way (held_kind k) j f) e

  -- ---- where there is something they say the same

  abbrev Agrees : List Step → Kind → Kind → Value → Type 0
  Agrees way k j v = (kind_along types way k ≡ Some j) ⊎ (v ≡ Unallocated)

  component_step : (n : ℕ) (way : List Step) (k j : Kind) (c : m.Component) → is_scalar k ≡ true → component_of types k.of n ≡ Some c →
      kind_along types way c.declared.kind ≡ Some j → kind_along types (Component n ∷ way) k ≡ Some j
  component_step n way k j c one at e =
      ap (λ (b : Bool). if b then found (component_of types k.of n) (λ (y : m.Component). kind_along types way y.declared.kind) else None) one
      ∙ ap (λ (o : Option m.Component). found o (λ (y : m.Component). kind_along types way y.declared.kind)) at ∙ e

  element_step : (n : ℕ) (way : List Step) (k j : Kind) → k.is_allocatable ≡ false → nat_lt 0 k.rank ≡ true → kind_along types way (of_kind k.of 0) ≡ Some j →
      kind_along types (Element n ∷ way) k ≡ Some j
  element_step n way k j held many e =
      ap (λ (b : Bool). if not b && nat_lt 0 k.rank then kind_along types way (of_kind k.of 0) else None) held
      ∙ ap (λ (b : Bool). if b then kind_along types way (of_kind k.of 0) else None) many ∙ e

  contents_step : (way : List Step) (k j : Kind) → k.is_allocatable ≡ true → kind_along types way (held_kind k) ≡ Some j → kind_along types (Contents ∷ way) k ≡ Some j
  contents_step way k j held e = ap (λ (b : Bool). if b then kind_along types way (held_kind k) else None) held ∙ e

  mutual
    by_along : (k j : Kind) (v : Value) (way : List Step) → IsOf types k v → kind_by types way k ≡ Some j → Agrees way k j (part v way)
    by_along k j v [] h e = inl e
    by_along k j (Composite vs) (Component n ∷ way) h e =
        let q = component_way types k j n way e in
        first_so (component_step n way k j q.0 h.0 q.1) (component_along h.1.components.items j vs n q.0 way h.3 (components_as types k h.1 n q.0 h.2 q.1) q.2)
    by_along k j (Array ss vs) (Element n ∷ way) h e =
        first_so (element_step n way k j h.0 h.1) (element_along (of_kind k.of 0) j vs n way h.4 (element_way types k j n way e))
    by_along k j (Allocated v) (Contents ∷ way) h e = first_so (contents_step way k j h.0) (by_along (held_kind k) j v way h.1 (contents_way types k j way e))
    by_along k j v (s ∷ way) h e = inr refl

    component_along : (cs : List m.Component) (j : Kind) (vs : Values) (n : ℕ) (c : m.Component) (way : List Step) → AreComponents types cs vs → slice_get cs n ≡ Some c →
        kind_by types way c.declared.kind ≡ Some j → Agrees way c.declared.kind j (part_at vs n way)
    component_along [] j vs n c way h at e = cc
    component_along (x ∷ cs) j none n c way h at e = absurd h
    component_along (x ∷ cs) j (more v vs) zero c way h at e =
        let same : x ≡ c = some_same at in
        by_along c.declared.kind j v way (subst (λ (z : m.Component). IsOf types z.declared.kind v) same h.0) e
    component_along (x ∷ cs) j (more v vs) (suc n) c way h at e = component_along cs j vs n c way h.2 at e

    element_along : (k j : Kind) (vs : Values) (n : ℕ) (way : List Step) → AreElements types k vs → kind_by types way k ≡ Some j → Agrees way k j (part_at vs n way)
    element_along k j none n way h e = inr refl
    element_along k j (more v vs) zero way h e = by_along k j v way h.0 e
    element_along k j (more v vs) (suc n) way h e = element_along k j vs n way h.1 e

pub ways_agree : WaysAgree
ways_agree types k j way = (along_by types way k j, λ v h e. by_along types k j v way h e)
