-- What is in a list, by recursion, and marks by their places.
use Rattle.std.proofs.Common.{◌≡◌, ℕ, ◌<◌, List, [], ◌∷◌, ◌++◌, length, refl, sym, ◌∙◌, arith, ◌⊎◌, inl, inr, Bool, true, false, replicate}
use Rattle.std.proofs.lemmas.Bool.{true≢false, cases_lt}
use Rattle.std.proofs.lemmas.List.{get_or_past, get_or-replicate, length-replicate}
use Rattle.f3_finalizable.specs.Inner.Marks.{is_seen}

module _ {X : Type 0} where
  abbrev pub Has : List X → X → Type 0
  Has [] x = ⊥
  Has (y ∷ ys) x = (x ≡ y) ⊎ Has ys x

  pub has_left : (xs ys : List X) (x : X) → Has xs x → Has (xs ++ ys) x
  has_left [] ys x h = absurd h
  has_left (z ∷ zs) ys x (inl e) = inl e
  has_left (z ∷ zs) ys x (inr h) = inr (has_left zs ys x h)

  pub has_last : (xs : List X) (y : X) → Has (xs ++ y ∷ []) y
  has_last [] y = inl refl
  has_last (z ∷ zs) y = inr (has_last zs y)

  pub has_push : (xs : List X) (y x : X) → Has (xs ++ y ∷ []) x → Has xs x ⊎ (x ≡ y)
  has_push [] y x (inl e) = inr e
  has_push [] y x (inr n) = absurd n
  has_push (z ∷ zs) y x (inl e) = inl (inl e)
  has_push (z ∷ zs) y x (inr h) = elim (has_push zs y x h) [ inl a ↦ inl (inr a) | inr b ↦ inr b ]

pub seen_inside : (seen : List Bool) (u : ℕ) → is_seen seen u ≡ true → u < length seen
seen_inside seen u h = elim (cases_lt u (length seen)) [
  | inl lt ↦ lt
  | inr past ↦ absurd (true≢false (sym h ∙ get_or_past seen u false past))
]

pub unmarked_all : (n u : ℕ) → is_seen (replicate n false) u ≡ false
unmarked_all n u = elim (cases_lt u n) [
  | inl lt ↦ get_or-replicate n u false false lt
  | inr past ↦ get_or_past (replicate n false) u false (omega (arith, length-replicate n false))
]
