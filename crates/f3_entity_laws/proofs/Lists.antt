-- Places in lists that are joined or mapped.
use Rattle.std.proofs.Common.{◌≡◌, ℕ, zero, suc, ◌+◌, ◌<◌, List, [], ◌∷◌, ◌++◌, length, take, Some, refl, sym, ap, ◌∙◌, inl, inr, ◌⊎◌, arith}
use Rattle.std.specs.Prelude.{slice_get}
use Rattle.std.specs.List.{flat_map}
use Rattle.std.proofs.lemmas.List.{length-append}
use mathlib.Core.Path.{subst}
use Rattle.f3_lawful_laws.proofs.Facts.{nothing, same}
use Rattle.f3_lawful_laws.proofs.Opening.{at_front, at_back}

-- what stands in one of two lists that are joined
pub split_at : {X : Type 0} (xs ys : List X) (k : ℕ) (x : X) → slice_get (xs ++ ys) k ≡ Some x
    → (slice_get xs k ≡ Some x) ⊎ ((j : ℕ) × (slice_get ys j ≡ Some x) × (k ≡ length xs + j))
split_at [] ys k x e = inr (k, e, (let a : k ≡ 0 + k = omega arith in a))
split_at (z ∷ zs) ys zero x e = inl e
split_at (z ∷ zs) ys (suc k) x e = elim (split_at zs ys k x e) [
  | inl a ↦ inl a
  | inr b ↦ inr (b.0, b.1, (let c : k ≡ length zs + b.0 = b.2 in let d : suc k ≡ suc (length zs) + b.0 = omega (arith, c) in d))
]

module _ {X Y : Type 0} (f : X → List Y) where
  -- how many stand before what is made of the item at this place
  abbrev pub before : (i : ℕ) → List X → ℕ
  before i xs = length (flat_map f (take i xs))

  pub before_more : (i : ℕ) (x : X) (xs : List X) → before (suc i) (x ∷ xs) ≡ length (f x) + before i xs
  before_more i x xs = length-append (f x) (flat_map f (take i xs))

  pub flat_at : (xs : List X) (k : ℕ) (y : Y) → slice_get (flat_map f xs) k ≡ Some y
      → (i : ℕ) × (x : X) × (j : ℕ) × (slice_get xs i ≡ Some x) × (slice_get (f x) j ≡ Some y) × (k ≡ before i xs + j)
  flat_at [] k y e = nothing e
  flat_at (x ∷ xs) k y e = elim (split_at (f x) (flat_map f xs) k y e) [
    | inl a ↦ (0, x, k, refl, a, (let z : k ≡ 0 + k = omega arith in z))
    | inr b ↦
        let r = flat_at xs b.0 y b.1 in
        let c : k ≡ length (f x) + b.0 = b.2 in
        let d : b.0 ≡ before r.0 xs + r.2 = r.5 in
        let l = before_more r.0 x xs in
        (suc r.0, r.1, r.2, r.3, r.4, omega (arith, c, d, l))
  ]

  pub flat_block : (xs : List X) (i : ℕ) (x : X) (j : ℕ) (y : Y) → slice_get xs i ≡ Some x → slice_get (f x) j ≡ Some y
      → slice_get (flat_map f xs) (before i xs + j) ≡ Some y
  flat_block [] i x j y at own = nothing at
  flat_block (z ∷ zs) zero x j y at own =
      ap (slice_get (f z ++ flat_map f zs)) (let e : 0 + j ≡ j = omega arith in e)
      ∙ at_front (f z) (flat_map f zs) j y (subst (λ (w : X). slice_get (f w) j ≡ Some y) (sym (same at)) own)
  flat_block (z ∷ zs) (suc i) x j y at own =
      let rest = flat_block zs i x j y at own in
      let l = before_more i z zs in
      ap (slice_get (f z ++ flat_map f zs)) (let e : before (suc i) (z ∷ zs) + j ≡ length (f z) + (before i zs + j) = omega (arith, l) in e)
      ∙ at_back (f z) (flat_map f zs) (before i zs + j) y rest

-- what stands at each place within
pub there : {X : Type 0} (xs : List X) (k : ℕ) → k < length xs → (x : X) × (slice_get xs k ≡ Some x)
there [] k lt = absurd (let h : k < 0 = lt in omega (arith, h))
there (y ∷ ys) zero lt = (y, refl)
there (y ∷ ys) (suc k) lt = there ys k (let h : suc k < suc (length ys) = lt in omega (arith, h))

-- lists with the same at each place
pub alike : {X : Type 0} (xs ys : List X) → length xs ≡ length ys → ((k : ℕ) (x : X) → slice_get xs k ≡ Some x → slice_get ys k ≡ Some x) → xs ≡ ys
alike [] [] long at = refl
alike [] (y ∷ ys) long at = absurd (let h : 0 ≡ suc (length ys) = long in omega (arith, h))
alike (x ∷ xs) [] long at = absurd (let h : suc (length xs) ≡ 0 = long in omega (arith, h))
alike (x ∷ xs) (y ∷ ys) long at =
    let rest : xs ≡ ys = alike xs ys (let h : suc (length xs) ≡ suc (length ys) = long in omega (arith, h)) (λ k z e. at (suc k) z e) in
    ap (λ z. z ∷ xs) (sym (same (at 0 x refl))) ∙ ap (λ zs. y ∷ zs) rest
