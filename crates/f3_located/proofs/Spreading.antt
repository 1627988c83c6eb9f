-- Values for elements.
use Rattle.std.proofs.Common.{append_assoc, ◌≡◌, ℕ, zero, suc, ◌+◌, ◌-◌, ◌<◌, false, List, [], ◌∷◌, ◌++◌, refl, sym, ap, ◌∙◌, arith, Vec, Box, Global, map, Some, drop, length}
use Rattle.std.specs.Prelude.{replicate, slice_get}
use Rattle.f3_meaning_whole.specs.Value as m
use Rattle.f3_meaning_whole.specs.Value.{listed, joined, spread}
use Rattle.f3_meaning_whole.specs.Store as s
use Rattle.f3_data.specs.declared.value.Span.{Span}
use Rattle.f3_data.specs.declared.value.Elements.{Elements}
use Rattle.f3_data.specs.declared.value.Value as v
use Rattle.f3_data.specs.Values.{value_of, values_of, spans_of}
use Rattle.f3_data.specs.References.{element_path}
use Rattle.f3_located.specs.Inner.Kinds.{is_array}
use Rattle.f3_located.proofs.Arrays.{composite_is, array_is, drop_at}

pub listed_joined : (vs : List m.Value) → listed (joined vs) ≡ vs
listed_joined [] = refl
listed_joined (x ∷ vs) = ap (λ xs. x ∷ xs) (listed_joined vs)

pub spread_elements : (n : ℕ) (b : Box Elements Global) → spread n (value_of (v.Array b)) ≡ values_of b.value.values.items
spread_elements n b = ap (spread n) (array_is b) ∙ listed_joined (values_of b.value.values.items)

pub spread_scalar : (n : ℕ) (x : m.Value) → is_array x ≡ false → spread n x ≡ replicate n x
spread_scalar n (m.Array ss vs) e = cc
spread_scalar zero (m.Number z) e = refl
spread_scalar zero (m.Truth b) e = refl
spread_scalar zero (m.Composite vs) e = refl
spread_scalar zero m.Unallocated e = refl
spread_scalar zero (m.Allocated x) e = refl
spread_scalar (suc n) (m.Number z) e = ap (λ xs. m.Number z ∷ xs) (spread_scalar n (m.Number z) e)
spread_scalar (suc n) (m.Truth b) e = ap (λ xs. m.Truth b ∷ xs) (spread_scalar n (m.Truth b) e)
spread_scalar (suc n) (m.Composite vs) e = ap (λ xs. m.Composite vs ∷ xs) (spread_scalar n (m.Composite vs) e)
spread_scalar (suc n) m.Unallocated e = ap (λ xs. m.Unallocated ∷ xs) (spread_scalar n m.Unallocated e)
spread_scalar (suc n) (m.Allocated x) e = ap (λ xs. m.Allocated x ∷ xs) (spread_scalar n (m.Allocated x) e)

pub spread_one : (x : m.Value) → is_array x ≡ false → spread 1 x ≡ x ∷ []
spread_one x e = spread_scalar 1 x e

pub replicate_pred : (n : ℕ) (x : m.Value) → 0 < n → replicate n x ≡ x ∷ replicate (n - 1) x
replicate_pred zero x h = absurd (omega arith)
replicate_pred (suc n) x h = ap (λ k. x ∷ replicate k x) (omega arith)

all_cleared_is : (vs : List m.Value) → m.all_cleared (joined vs) ≡ joined (map m.cleared vs)
all_cleared_is [] = refl
all_cleared_is (x ∷ vs) = ap (m.more (m.cleared x)) (all_cleared_is vs)

-- a copy with nothing allocated beneath
pub composite_cleared : (x : v.Value) (vs xs : Vec v.Value Global) (ys : List v.Value) → x ≡ v.Composite vs → ys ≡ vs.items → values_of xs.items ≡ map m.cleared (values_of ys) → value_of (v.Composite xs) ≡ m.cleared (value_of x)
composite_cleared x vs xs ys e a h = composite_is xs ∙ ap (λ zs. m.Composite (joined zs)) (h ∙ ap (λ zs. map m.cleared (values_of zs)) a)
    ∙ sym (ap (λ y. m.cleared (value_of y)) e ∙ ap m.cleared (composite_is vs) ∙ ap m.Composite (all_cleared_is (values_of vs.items)))

pub array_cleared : (x : v.Value) (b : Box Elements Global) (y : m.Value) (ts : List Span) (xs : List v.Value) → x ≡ v.Array b → y ≡ m.Array (spans_of ts) (joined (values_of xs)) → ts ≡ b.value.spans.items → values_of xs ≡ map m.cleared (values_of b.value.values.items) →
    y ≡ m.cleared (value_of x)
array_cleared x b y ts xs e f g h = f ∙ ap (λ us. m.Array (spans_of us) (joined (values_of xs))) g
    ∙ ap (λ zs. m.Array (spans_of b.value.spans.items) (joined zs)) h
    ∙ sym (ap (λ z. m.cleared (value_of z)) e ∙ ap m.cleared (array_is b) ∙ ap (m.Array (spans_of b.value.spans.items)) (all_cleared_is (values_of b.value.values.items)))

-- one more copy
pub copied_more : (f : s.Path → m.Value) (p : s.Path) (tail : List s.Step) (ns : List ℕ) (k n : ℕ) (vs ws : List v.Value) (x : v.Value) → slice_get ns k ≡ Some n → ws ≡ vs ++ x ∷ [] → value_of x ≡ f (element_path p tail n) →
    values_of ws ++ map f (map (element_path p tail) (drop (k + 1) ns)) ≡ values_of vs ++ map f (map (element_path p tail) (drop k ns))
copied_more f p tail ns k n vs ws x h e i =
    ap (λ us. values_of us ++ map f (map (element_path p tail) (drop (k + 1) ns))) e
    ∙ ap (λ us. us ++ map f (map (element_path p tail) (drop (k + 1) ns))) (values_append vs (x ∷ []))
    ∙ append_assoc (values_of vs) (value_of x ∷ []) (map f (map (element_path p tail) (drop (k + 1) ns)))
    ∙ ap (λ y. values_of vs ++ y ∷ map f (map (element_path p tail) (drop (k + 1) ns))) i
    ∙ sym (ap (λ ms. values_of vs ++ map f (map (element_path p tail) ms)) (drop_at k ns n h))
  where
    values_append : (xs ys : List v.Value) → values_of (xs ++ ys) ≡ values_of xs ++ values_of ys
    values_append [] ys = refl
    values_append (x ∷ xs) ys = ap (λ zs. value_of x ∷ zs) (values_append xs ys)

pub none_of : {A : Type 0} (xs : List A) → length xs ≡ 0 → xs ≡ []
none_of [] h = refl
none_of (x ∷ xs) h = absurd (omega arith)
