-- The trees of types are those of the types.
use Rattle.std.proofs.Common.{◌≡◌, ℕ, zero, suc, ◌+◌, List, [], ◌∷◌, ◌++◌, Some, refl, sym, ap, ◌∙◌, append_assoc, arith, length}
use Rattle.std.specs.Prelude.{⊤, slice_get, slice_index_or}
use mathlib.Core.Path.{subst}
use Rattle.f3_program.specs.declared.declarations.Base.{Base}
use Rattle.f3_program.specs.declared.declarations.Base.TheVariants as base
use Rattle.f3_program.specs.declared.declarations.Component.{Component}
use Rattle.f3_program.specs.declared.declarations.Derived.{Derived}
use Rattle.f3_meaning_whole.specs.Shape.{Shape, Whole, Logical, Record, Parts, nothing, and, shape_in, parts_in, shapes_from, shapes_of}
use Rattle.f3_meaning_whole.specs.Act.{component_in, base_of, component_type}

-- a tree is that of a type
abbrev mutual
  pub IsShape : List Derived → Shape → Base → Type 0
  IsShape types Whole of = ⊤
  IsShape types Logical of = ⊤
  IsShape types (Record t parts) of = (of ≡ base.Derived t) × AreParts types parts of 0

  pub AreParts : List Derived → Parts → Base → ℕ → Type 0
  AreParts types nothing of k = ⊤
  AreParts types (and c s rest) of k = IsShape types s (component_type types of k) × AreParts types rest of (suc k)

-- so those of the types from a number on
abbrev AreShapes : List Derived → List Shape → ℕ → Type 0
AreShapes types [] k = ⊤
AreShapes types (s ∷ ss) k = IsShape types s (base.Derived k) × AreShapes types ss (suc k)

add_zero : (k : ℕ) → k ≡ k + 0
add_zero k = omega arith

zero_add : (k : ℕ) → k + 0 ≡ k
zero_add k = omega arith

pub from_zero : (k : ℕ) → 0 + k ≡ k
from_zero k = omega arith

add_suc : (k i : ℕ) → suc k + i ≡ k + suc i
add_suc k i = omega arith

suc_add : (k i : ℕ) → k + suc i ≡ suc k + i
suc_add k i = omega arith

shape_at : (types : List Derived) (ss : List Shape) (k i : ℕ) → AreShapes types ss k → IsShape types (slice_index_or ss i Whole) (base.Derived (k + i))
shape_at types [] k i h = tt
shape_at types (s ∷ ss) k zero h = subst (λ j. IsShape types s (base.Derived j)) (add_zero k) h.0
shape_at types (s ∷ ss) k (suc i) h = subst (λ j. IsShape types (slice_index_or ss i Whole) (base.Derived j)) (add_suc k i) (shape_at types ss (suc k) i h.1)

shape_is : (types : List Derived) (ss : List Shape) (of : Base) → AreShapes types ss 0 → IsShape types (shape_in ss of) of
shape_is types ss base.Integer h = tt
shape_is types ss base.Long h = tt
shape_is types ss base.Logical h = tt
shape_is types ss (base.Derived t) h = subst (λ j. IsShape types (slice_index_or ss t Whole) (base.Derived j)) (from_zero t) (shape_at types ss 0 t h)

shapes-append : (types : List Derived) (ss : List Shape) (s : Shape) (k : ℕ) → AreShapes types ss k → IsShape types s (base.Derived (k + length ss)) → AreShapes types (ss ++ s ∷ []) k
shapes-append types [] s k h e = (subst (λ j. IsShape types s (base.Derived j)) (zero_add k) e, tt)
shapes-append types (x ∷ ss) s k h e = (h.0, shapes-append types ss s (suc k) h.1 (subst (λ j. IsShape types s (base.Derived j)) (suc_add k (length ss)) e))

parts_are : (types : List Derived) (ss : List Shape) (of : Base) (cs : List Component) (k : ℕ) → AreShapes types ss 0 → ((j : ℕ) → component_type types of (k + j) ≡ base_of (slice_get cs j)) → AreParts types (parts_in ss cs) of k
parts_are types ss of [] k h e = tt
parts_are types ss of (c ∷ cs) k h e = (
  subst (IsShape types (shape_in ss c.declared.kind.of)) (sym (ap (component_type types of) (add_zero k) ∙ e 0)) (shape_is types ss c.declared.kind.of h),
  parts_are types ss of cs (suc k) h (λ j. ap (component_type types of) (add_suc k j) ∙ e (suc j)),
)

found : (front : List Derived) (t : Derived) (back : List Derived) → slice_get (front ++ t ∷ back) (length front) ≡ Some t
found [] t back = refl
found (x ∷ front) t back = found front t back

longer : (ss : List Shape) (s : Shape) → length (ss ++ s ∷ []) ≡ suc (length ss)
longer [] s = refl
longer (x ∷ ss) s = ap suc (longer ss s)

typed_longer : (front : List Derived) (t : Derived) → length (front ++ t ∷ []) ≡ suc (length front)
typed_longer [] t = refl
typed_longer (x ∷ front) t = ap suc (typed_longer front t)

grown : (types front back : List Derived) (ss : List Shape) → types ≡ front ++ back → length front ≡ length ss → AreShapes types ss 0 → AreShapes types (shapes_from ss back) 0
grown types front [] ss e l h = h
grown types front (t ∷ back) ss e l h =
    let s : Shape = Record (length ss) (parts_in ss t.components.items) in
    let at : slice_get types (length ss) ≡ Some t = ap (λ ts. slice_get ts (length ss)) e ∙ ap (slice_get (front ++ t ∷ back)) (sym l) ∙ found front t back in
    grown types (front ++ t ∷ []) back (ss ++ s ∷ []) (e ∙ sym (append_assoc front (t ∷ []) back)) (typed_longer front t ∙ ap suc l ∙ sym (longer ss s))
    (shapes-append types ss s 0 h (ap base.Derived (from_zero (length ss)), parts_are types ss (base.Derived (0 + length ss)) t.components.items 0 h (λ j. ap (λ i. base_of (component_in (slice_get types i) (0 + j))) (from_zero (length ss)) ∙ ap (λ o. base_of (component_in o (0 + j))) at ∙ ap (λ i. base_of (component_in (Some t) i)) (from_zero j))))

pub shapes_are : (types : List Derived) (of : Base) → IsShape types (shape_in (shapes_of types) of) of
shapes_are types of = shape_is types (shapes_of types) of (grown types [] types [] refl refl tt)
