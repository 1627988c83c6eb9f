-- The dimensions of an array, one after another.
use Rattle.std.proofs.Common.{◌≡◌, ◌∙◌, sym, ap, subst, refl, inl, inr, ⊎_elim, ℕ, zero, suc, ◌+◌, ◌*◌, ◌<◌, ◌≤◌, ◌^◌, ◌%◌, List, [], ◌∷◌, ◌++◌, length, length-append, append_assoc, arith, w64, to_z}
use Rattle.std.specs.Prelude.{◌⊎◌, ℤ, pos, ◌*ℤ◌}
use Rattle.std.proofs.Math.Nat.{mod-eq_of_lt}
use Rattle.std.proofs.lemmas.Int.{to_z_pos}
use Rattle.std.proofs.lemmas.List.{append-nil}
use Rattle.f3_program.specs.declared.declarations.Dimension.{Dimension}
use Rattle.f3_meaning_whole.specs.Value.{Span, count}
use Rattle.f3_meaning_whole.specs.Shape.{spans_declared}
use Rattle.f3_desc.specs.declared.descriptor.Dim.{Dim}
use Rattle.f3_desc.specs.Laws.{IsContiguous, size_of}
use Rattle.f3_word_cells.specs.Areas.{span_of, spans_of}
use Rattle.f3_word_areas.specs.Dims.{AreApart}

-- as many elements as the bounds say
pub size-count : (ds : List Dim) → size_of ds ≡ count (spans_of ds)
size-count [] = refl
size-count (d ∷ ds) = ap (λ n. d.extent * n) (size-count ds)

-- what is made, and the next distance, where these are left
pub record Laying (all : List Dimension) (words : ℕ) (made : List Dim) (stride : ℕ) (rest : List Dimension) : Type 0 where
  pub room : length made + length rest ≤ 7
  pub spans : spans_of made ++ spans_declared rest ≡ spans_declared all
  pub apart : count (spans_declared all) * words < 2 ^ 63 → (count (spans_declared all) ≡ 0) ⊎ (IsContiguous (pos words) made × (stride ≡ words * size_of made))

pub laying-none : (all : List Dimension) (words : ℕ) → length all ≤ 7 → Laying all words [] words all
laying-none all words few = record { room = omega arith; spans = refl; apart = λ small. inr (tt, omega arith) }

-- one dimension more
contiguous-more : (w : ℕ) (ds : List Dim) (d : Dim) → IsContiguous (pos w) ds → d.stride ≡ pos (w * size_of ds) → IsContiguous (pos w) (ds ++ d ∷ [])
contiguous-more w [] d is e = (e ∙ ap pos (omega arith), tt)
contiguous-more w (x ∷ ds) d is e =
    let same : pos x.extent *ℤ pos w ≡ pos (x.extent * w) = refl in (
      is.0,
      subst (λ (z : ℤ). IsContiguous z (ds ++ d ∷ [])) (sym same)
          (contiguous-more (x.extent * w) ds d (subst (λ (z : ℤ). IsContiguous z ds) same is.1) (e ∙ ap pos (omega arith))),
    )

size-more : (ds : List Dim) (d : Dim) → size_of (ds ++ d ∷ []) ≡ size_of ds * d.extent
size-more [] d = omega arith
size-more (x ∷ ds) d = let e = size-more ds d in ap (λ n. x.extent * n) e ∙ omega arith

spans-more : (ds : List Dim) (d : Dim) → spans_of (ds ++ d ∷ []) ≡ spans_of ds ++ span_of d ∷ []
spans-more [] d = refl
spans-more (x ∷ ds) d = ap (λ l. span_of x ∷ l) (spans-more ds d)

count-append : (ss ts : List Span) → count (ss ++ ts) ≡ count ss * count ts
count-append [] ts = omega arith
count-append (s ∷ ss) ts = let e = count-append ss ts in ap (λ n. s.extent * n) e ∙ omega arith

-- no further than there are words
product-below : (a e c w s : ℕ) → s ≡ w * a → a * (e * c) * w < 2 ^ 63 → (a * (e * c) ≡ 0 → ⊥) → (s < 2 ^ 63) × (s * e < 2 ^ 63)
product-below a e zero w s is small some = absurd (some (omega arith))
product-below a zero (suc c) w s is small some = absurd (some (omega arith))
product-below a (suc e) (suc c) w s is small some =
    let all : a * (suc e * suc c) * w ≡ (w * a) * (suc e) + (w * a) * (suc e) * c = omega arith in
    let more : (w * a) * suc e ≡ w * a + (w * a) * e = omega arith in
    let here : s * suc e ≡ (w * a) * suc e = ap (λ n. n * suc e) is in
    let none : 0 ≤ (w * a) * (suc e) * c = omega arith in
    let nothing : 0 ≤ (w * a) * e = omega arith in
    (omega arith, omega arith)

either : (n : ℕ) → (n ≡ 0) ⊎ (n ≡ 0 → ⊥)
either zero = inl refl
either (suc n) = inr (λ e. absurd (omega arith))

module _ (all : List Dimension) (words : ℕ) (made : List Dim) (stride : ℕ) (x : Dimension) (rest : List Dimension) (d : Dim)
    (is : span_of d ≡ record { lower = x.lower; extent = x.extent }) (far : d.stride ≡ to_z w64 stride) where
  part-count : spans_of made ++ spans_declared (x ∷ rest) ≡ spans_declared all → count (spans_declared all) ≡ size_of made * (x.extent * count (spans_declared rest))
  part-count e = ap count (sym e) ∙ count-append (spans_of made) (spans_declared (x ∷ rest)) ∙ ap (λ n. n * (x.extent * count (spans_declared rest))) (sym (size-count made))

  pub laying-more : Laying all words made stride (x ∷ rest) → Laying all words (made ++ d ∷ []) ((stride * x.extent) % 2 ^ 64) rest
  laying-more l = record {
    room = let n = length-append made (d ∷ []) in let r = l.room in omega arith;
    spans = ap (λ ss. ss ++ spans_declared rest) (spans-more made d) ∙ append_assoc (spans_of made) (span_of d ∷ []) (spans_declared rest)
        ∙ ap (λ (s : Span). spans_of made ++ (s ∷ spans_declared rest)) is ∙ l.spans;
    apart = λ small. ⊎_elim (λ none. inl none) (λ some. further small some) (either (count (spans_declared all)));
  }
    where
      extents : d.extent ≡ x.extent
      extents = ap (λ (s : Span). s.extent) is

      further : count (spans_declared all) * words < 2 ^ 63 → (count (spans_declared all) ≡ 0 → ⊥)
          → (count (spans_declared all) ≡ 0) ⊎ (IsContiguous (pos words) (made ++ d ∷ []) × ((stride * x.extent) % 2 ^ 64 ≡ words * size_of (made ++ d ∷ [])))
      further small some = ⊎_elim (λ none. absurd (some none)) (λ h.
          let e = part-count l.spans in
          let c : ℕ = count (spans_declared rest) in
          let below = product-below (size_of made) x.extent c words stride h.1 (subst (λ n. n * words < 2 ^ 63) e small) (λ z. some (e ∙ z)) in
          let dist : d.stride ≡ pos (words * size_of made) = far ∙ to_z_pos w64 stride below.0 ∙ ap pos h.1 in
          let next : (stride * x.extent) % 2 ^ 64 ≡ stride * x.extent = mod-eq_of_lt (omega (arith, below.1)) in
          let size : size_of (made ++ d ∷ []) ≡ size_of made * x.extent = size-more made d ∙ ap (λ n. size_of made * n) extents in
          inr (contiguous-more words made d h.0 dist, next ∙ ap (λ n. n * x.extent) h.1 ∙ joined words (size_of made) x.extent ∙ ap (λ n. words * n) (sym size)))
          (l.apart small)
        where
          joined : (a b c : ℕ) → a * b * c ≡ a * (b * c)
          joined a b c = omega arith

pub laying-all : (all : List Dimension) (words : ℕ) (made : List Dim) (stride : ℕ) → Laying all words made stride []
    → (spans_of made ≡ spans_declared all) × (count (spans_declared all) * words < 2 ^ 63 → AreApart words made)
laying-all all words made stride l =
    let e : spans_of made ≡ spans_declared all = sym (append-nil (spans_of made)) ∙ l.spans in
    (e, λ small. ⊎_elim (λ none. inl (size-count made ∙ ap count e ∙ none)) (λ h. inr h.0) (l.apart small))
