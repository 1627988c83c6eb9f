-- Dimensions of values.
use Rattle.std.proofs.Common.{◌≡◌, ◌∙◌, sym, ap, subst, refl, inl, inr, ℕ, zero, suc, ◌+◌, ◌-◌, ◌*◌, ◌^◌, ◌<◌, ◌≤◌, Bool, List, [], ◌∷◌, ◌++◌, length, take, get_or, min, add-one, arith}
use Rattle.std.specs.Prelude.{◌⊎◌, ℤ, pos, ◌*ℤ◌, nat_eq, nat_lt, if◌then◌else◌}
use Rattle.std.proofs.lemmas.Bool.{cases_lt, lt-ltb, le-ltb}
use Rattle.std.proofs.lemmas.Int.{ints}
use Rattle.std.proofs.lemmas.List.{length-take-le}
use Rattle.std.proofs.Math.Seq.{take-suc}
use Rattle.f3_desc.specs.declared.descriptor.Dim.{Dim}
use Rattle.f3_desc.specs.Laws.{IsContiguous, size_of}
use Rattle.f3_meaning_whole.specs.Value.{Span, shown}
use Rattle.f3_word_cells.specs.Areas.{spans_of}
use Rattle.f3_word_reads.specs.Packed.{packed_dim, packed_from}

-- ---- numbers

-- the greatest number of 64 bits
abbrev greatest : ℕ
greatest = 2 ^ 64 - 1

times-capped : (a e : ℕ) → min (min a greatest * e) greatest ≡ min (a * e) greatest
times-capped a zero = omega arith
times-capped a (suc e) = elim (cases_lt a greatest) [
  | inl lt ↦ let same : min a greatest ≡ a = omega arith in ap (λ k. min (k * suc e) greatest) same
  | inr le ↦ let same : min a greatest ≡ greatest = omega arith in ap (λ k. min (k * suc e) greatest) same ∙ omega arith
]

above-none : (a b : ℕ) → 0 < a → b ≤ a * b
above-none zero b lt = absurd (omega arith)
above-none (suc a) b lt = omega arith

pub part-short : (a b n : ℕ) → n ≡ a * b → 0 < n → n < 2 ^ 63 → b < 2 ^ 63
part-short zero b n e some short = absurd (omega arith)
part-short (suc a) b n e some short = let le = above-none (suc a) b (omega arith) in omega arith

both-some : (a b : ℕ) → 0 < a * b → (0 < a) × (0 < b)
both-some zero b lt = absurd (omega arith)
both-some (suc a) zero lt = absurd (omega arith)
both-some (suc a) (suc b) lt = (omega arith, omega arith)

-- ---- one dimension

stride-near : (k : ℕ) → k < 2 ^ 63 → (if nat_lt k (2 ^ 63) then pos k else pos 0) ≡ pos k
stride-near k lt = ap (λ (b : Bool). if b then pos k else pos 0) (lt-ltb k (2 ^ 63) lt)

stride-far : (k : ℕ) → 2 ^ 63 ≤ k → (if nat_lt k (2 ^ 63) then pos k else pos 0) ≡ pos 0
stride-far k le = ap (λ (b : Bool). if b then pos k else pos 0) (le-ltb k (2 ^ 63) le)

abbrev with-stride : Dim → ℤ → Dim
with-stride d z = record { lower = if nat_eq d.extent 0 then pos 1 else d.lower; extent = d.extent; stride = z }

dim-capped : (d : Dim) (k : ℕ) → packed_dim d (min k greatest) ≡ packed_dim d k
dim-capped d k = elim (cases_lt k (2 ^ 63)) [
  | inl lt ↦ let same : min k greatest ≡ k = omega arith in ap (packed_dim d) same
  | inr le ↦ ap (with-stride d) (stride-far (min k greatest) (omega arith) ∙ sym (stride-far k le))
]

-- ---- one dimension more

packed-append : (w : ℕ) (ds : List Dim) (d : Dim) → packed_from w (ds ++ d ∷ []) ≡ packed_from w ds ++ packed_dim d (size_of ds * w) ∷ []
packed-append w [] d = let e : w ≡ 1 * w = omega arith in ap (λ k. packed_dim d k ∷ []) e
packed-append w (e ∷ ds) d =
    let f : size_of ds * (w * e.extent) ≡ e.extent * size_of ds * w = omega arith in
    ap (λ xs. packed_dim e w ∷ xs) (packed-append (w * e.extent) ds d ∙ ap (λ k. packed_from (w * e.extent) ds ++ packed_dim d k ∷ []) f)

size-append : (ds : List Dim) (d : Dim) → size_of (ds ++ d ∷ []) ≡ size_of ds * d.extent
size-append [] d = omega arith
size-append (e ∷ ds) d = let f : e.extent * (size_of ds * d.extent) ≡ e.extent * size_of ds * d.extent = omega arith in ap (λ k. e.extent * k) (size-append ds d) ∙ f

pub packed-long : (w : ℕ) (ds : List Dim) → length (packed_from w ds) ≡ length ds
packed-long w [] = refl
packed-long w (d ∷ ds) = let e = packed-long (w * d.extent) ds in omega arith

module _ (w : ℕ) (ds : List Dim) (k : ℕ) (d : Dim) (lt : k < length ds) where
  taken : take (k + 1) ds ≡ take k ds ++ get_or ds k d ∷ []
  taken = ap (λ n. take n ds) (add-one k) ∙ take-suc ds k d lt

  pub packed-next : (items next : List Dim) (r : Dim) (distance : ℕ) → items ≡ packed_from w (take k ds) → distance ≡ min (size_of (take k ds) * w) (2 ^ 64 - 1)
      → r ≡ packed_dim (get_or ds k d) distance → next ≡ items ++ r ∷ [] → next ≡ packed_from w (take (k + 1) ds)
  packed-next items next r distance e f g h =
      h ∙ ap (λ xs. xs ++ r ∷ []) e
      ∙ ap (λ x. packed_from w (take k ds) ++ x ∷ []) (g ∙ ap (packed_dim (get_or ds k d)) f ∙ dim-capped (get_or ds k d) (size_of (take k ds) * w))
      ∙ sym (ap (packed_from w) taken ∙ packed-append w (take k ds) (get_or ds k d))

  pub distance-next : (distance next : ℕ) → distance ≡ min (size_of (take k ds) * w) (2 ^ 64 - 1) → next ≡ min (distance * (get_or ds k d).extent) (2 ^ 64 - 1)
      → next ≡ min (size_of (take (k + 1) ds) * w) (2 ^ 64 - 1)
  distance-next distance next f e =
      let size : size_of (take (k + 1) ds) ≡ size_of (take k ds) * (get_or ds k d).extent = ap size_of taken ∙ size-append (take k ds) (get_or ds k d) in
      let g : size_of (take k ds) * w * (get_or ds k d).extent ≡ size_of (take k ds) * (get_or ds k d).extent * w = omega arith in
      e ∙ ap (λ n. min (n * (get_or ds k d).extent) greatest) f ∙ times-capped (size_of (take k ds) * w) (get_or ds k d).extent
      ∙ ap (λ n. min n greatest) (g ∙ sym (ap (λ n. n * w) size))

pub packed-few : (w : ℕ) (ds : List Dim) (k : ℕ) → k ≤ length ds → (items : List Dim) → items ≡ packed_from w (take k ds) → length items ≡ k
packed-few w ds k le items e = ap length e ∙ packed-long w (take k ds) ∙ length-take-le k ds le

-- ---- all dimensions

apart : (w : ℕ) (ds : List Dim) → 0 < size_of ds → size_of ds * w < 2 ^ 63 → IsContiguous (pos w) (packed_from w ds)
apart w [] some short = tt
apart w (d ∷ ds) some short =
    let le : w ≤ d.extent * size_of ds * w = above-none (d.extent * size_of ds) w some in
    let e : size_of ds * (w * d.extent) ≡ d.extent * size_of ds * w = omega arith in
    let f : pos (w * d.extent) ≡ pos d.extent *ℤ pos w = omega (arith, ints) in (
      stride-near w (omega arith),
      subst (λ (z : ℤ). IsContiguous z (packed_from (w * d.extent) ds)) f (apart (w * d.extent) ds (both-some d.extent (size_of ds) some).1 (omega arith)),
    )

pub packed-size : (w : ℕ) (ds : List Dim) → size_of (packed_from w ds) ≡ size_of ds
packed-size w [] = refl
packed-size w (d ∷ ds) = ap (λ (k : ℕ). d.extent * k) (packed-size (w * d.extent) ds)

pub packed-contiguous : (w : ℕ) (ds : List Dim) → size_of ds * w < 2 ^ 63 → (size_of (packed_from w ds) ≡ 0) ⊎ IsContiguous (pos w) (packed_from w ds)
packed-contiguous w ds short = elim (cases_lt 0 (size_of ds)) [
  | inl some ↦ inr (apart w ds some short)
  | inr none ↦ let e = packed-size w ds in inl (omega arith)
]

pub packed-spans : (w : ℕ) (ds : List Dim) → spans_of (packed_from w ds) ≡ shown (spans_of ds)
packed-spans w [] = refl
packed-spans w (d ∷ ds) = ap (λ (ss : List Span). record { lower = if nat_eq d.extent 0 then pos 1 else d.lower; extent = d.extent } ∷ ss) (packed-spans (w * d.extent) ds)
