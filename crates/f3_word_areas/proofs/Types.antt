-- Components of the types of a program that is well formed.
use Rattle.std.proofs.Common.{◌≡◌, ◌∙◌, sym, ap, subst, refl, ℕ, zero, suc, ◌+◌, List, [], ◌∷◌, length, take, arith}
use Rattle.std.specs.Prelude.{Bool, true, false, ◌&&◌, if◌then◌else◌, Option, None, Some, slice_get, slice_index_or}
use Rattle.std.proofs.lemmas.Bool.{ltb-true, eqb-true}
use Rattle.std.proofs.lemmas.List.{get_or-take}
use Rattle.f3_program.specs.declared.declarations.Base.{Base}
use Rattle.f3_program.specs.declared.declarations.Base.TheVariants as base
use Rattle.f3_program.specs.declared.declarations.Component.{Component}
use Rattle.f3_program.specs.declared.declarations.Declared.{Declared}
use Rattle.f3_program.specs.declared.declarations.Derived.{Derived}
use Rattle.f3_program.specs.declared.program.Program.{Program}
use Rattle.f3_meaning_whole.specs.Act.{component_of, component_in}
use Rattle.f3_meaning_whole.specs.Shape.{Whole, shape_in, shapes_of}
use Rattle.f3_meaning_whole.specs.Formed.{all, is_declared, is_before, is_final, are_types, IsWellFormed}
use Rattle.f3_room_places.proofs.Trees.{trees_before}

both : (a b : Bool) → (a && b) ≡ true → (a ≡ true) × (b ≡ true)
both true b e = (refl, e)
both false b e = absurd cc

pub all-at : {A : Type 0} (f : A → Bool) (xs : List A) (i : ℕ) (x : A) → all f xs ≡ true → slice_get xs i ≡ Some x → f x ≡ true
all-at f [] i x e is = absurd cc
all-at f (y ∷ xs) zero x e is = let same : y ≡ x = cc in ap f (sym same) ∙ (both (f y) (all f xs) e).0
all-at f (y ∷ xs) (suc i) x e is = all-at f xs i x (both (f y) (all f xs) e).1 is

type-at : (p : Program) (ts : List Derived) (n i m : ℕ) (y : Derived) → m ≡ n + i → are_types p n ts ≡ true → slice_get ts i ≡ Some y
    → all (λ (c : Component). is_declared m c.declared) y.components.items ≡ true
type-at p [] n i m y e are is = absurd cc
type-at p (t ∷ ts) n zero m y e are is =
    let same : t ≡ y = cc in
    let at : n ≡ m = omega arith in
    subst (λ (k : ℕ). all (λ (c : Component). is_declared k c.declared) y.components.items ≡ true) at
    (subst (λ (z : Derived). all (λ (c : Component). is_declared n c.declared) z.components.items ≡ true) same
    (both (all (λ (c : Component). is_declared n c.declared) t.components.items) _ are).0)
type-at p (t ∷ ts) n (suc i) m y e are is =
    let a = both (all (λ (c : Component). is_declared n c.declared) t.components.items) _ are in
    let b = both (all (is_final p) t.finals.items) _ a.1 in
    type-at p ts (suc n) i m y (omega arith) b.1 is

-- a component of a type of a number
pub record Known (p : Program) (of : Base) (k : ℕ) (c : Component) : Type 0 where
  pub number : ℕ
  pub type : Derived
  pub is : of ≡ base.Derived number
  pub there : slice_get p.types.items number ≡ Some type
  pub component : slice_get type.components.items k ≡ Some c

known-in : (p : Program) (n k : ℕ) (c : Component) (o : Option Derived) → slice_get p.types.items n ≡ o → component_in o k ≡ Some c → Known p (base.Derived n) k c
known-in p n k c None e is = absurd cc
known-in p n k c (Some y) e is = record { number = n; type = y; is = refl; there = e; component = is }

pub known : (p : Program) (of : Base) (k : ℕ) (c : Component) → component_of p.types.items of k ≡ Some c → Known p of k c
known p base.Integer k c e = absurd cc
known p base.Long k c e = absurd cc
known p base.Logical k c e = absurd cc
known p (base.Derived n) k c e = known-in p n k c (slice_get p.types.items n) refl e

pub component-declared : (p : Program) (of : Base) (k : ℕ) (c : Component) → IsWellFormed p → (h : Known p of k c) → is_declared h.number c.declared ≡ true
component-declared p of k c formed h =
    let types = (both (are_types p 0 p.types.items) _ formed).0 in
    all-at (λ (c : Component). is_declared h.number c.declared) h.type.components.items k c (type-at p p.types.items 0 h.number h.number h.type (omega arith) types h.there) h.component

-- the tree of its type is the same among all types as among those before
pub same-tree : (ts : List Derived) (n : ℕ) (of : Base) → is_before n of ≡ true → shape_in (shapes_of (take n ts)) of ≡ shape_in (shapes_of ts) of
same-tree ts n base.Integer e = refl
same-tree ts n base.Long e = refl
same-tree ts n base.Logical e = refl
same-tree ts n (base.Derived t) e = ap (λ ss. slice_index_or ss t Whole) (trees_before ts n) ∙ get_or-take n (shapes_of ts) t Whole (ltb-true t n e)

pub declared-before : (n : ℕ) (d : Declared) → is_declared n d ≡ true → is_before n d.kind.of ≡ true
declared-before n d e = (both (is_before n d.kind.of) _ e).0

ranked : (b : Bool) (x y : Bool) → b ≡ false → (if b then x else y) ≡ true → y ≡ true
ranked true x y e h = absurd cc
ranked false x y e h = h

pub declared-rank : (n : ℕ) (d : Declared) → is_declared n d ≡ true → d.kind.is_allocatable ≡ false → length d.dimensions.items ≡ d.kind.rank
declared-rank n d e plain = eqb-true _ _ (ranked d.kind.is_allocatable _ _ plain (both (is_before n d.kind.of) _ e).1)
