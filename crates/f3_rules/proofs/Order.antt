-- The order of breaks is total, and firsts are least.
use Rattle.std.proofs.Common.{◌≡◌, ℕ, ◌<◌, ◌≤◌, List, [], ◌∷◌, true, false, ◌⊎◌, inl, inr, refl, sym, ◌∙◌, arith}
use Rattle.std.proofs.lemmas.Bool.{cases_order, lt-ltb, le-ltb, eq-eqb, ne_eqb, true≢false}
use Rattle.f3_rules.specs.declared.breaks.Break.{Break}
use Rattle.f3_rules.specs.Least.{before, rank, is_before}

-- what the head of two lists says
less_head : (x y : ℕ) (xs ys : List ℕ) → x < y → before (x ∷ xs) (y ∷ ys) ≡ true
less_head x y xs ys h = rw (lt-ltb x y h) refl

same_head : (x y : ℕ) (xs ys : List ℕ) → x ≡ y → before (x ∷ xs) (y ∷ ys) ≡ before xs ys
same_head x y xs ys h = rw (le-ltb x y (omega arith), eq-eqb x y h) refl

more_head : (x y : ℕ) (xs ys : List ℕ) → y < x → before (x ∷ xs) (y ∷ ys) ≡ false
more_head x y xs ys h = rw (le-ltb x y (omega arith), ne_eqb x y (omega arith)) refl

pub not_before_itself : (xs : List ℕ) → before xs xs ≡ false
not_before_itself [] = refl
not_before_itself (x ∷ xs) = same_head x x xs xs refl ∙ not_before_itself xs

-- where c is not before b, and b is not before a, c is not before a
pub not_before : (xs ys zs : List ℕ) → before zs ys ≡ false → before ys xs ≡ false → before zs xs ≡ false
not_before xs [] [] p q = q
not_before xs (y ∷ ys) [] p q = absurd (true≢false p)
not_before [] ys (z ∷ zs) p q = refl
not_before (x ∷ xs) [] (z ∷ zs) p q = absurd (true≢false q)
not_before (x ∷ xs) (y ∷ ys) (z ∷ zs) p q =
    elim (cases_order z x) [
      | inl same ↦ elim (cases_order y x) [
        | inl alike ↦ same_head z x zs xs same ∙ not_before xs ys zs (sym (same_head z y zs ys (omega arith)) ∙ p) (sym (same_head y x ys xs alike) ∙ q)
        | inr (inl less) ↦ absurd (true≢false (sym (less_head y x ys xs less) ∙ q))
        | inr (inr more) ↦ absurd (true≢false (sym (less_head z y zs ys (omega arith)) ∙ p))
      ]
      | inr (inl less) ↦ elim (cases_lt_eq y x) [
        | inl below ↦ absurd (true≢false (sym (less_head y x ys xs below) ∙ q))
        | inr above ↦ absurd (true≢false (sym (less_head z y zs ys (omega arith)) ∙ p))
      ]
      | inr (inr more) ↦ more_head z x zs xs more
    ]
  where
    cases_lt_eq : (m n : ℕ) → (m < n) ⊎ (n ≤ m)
    cases_lt_eq m n = elim (cases_order m n) [ inl e ↦ inr (omega arith) | inr (inl l) ↦ inl l | inr (inr g) ↦ inr (omega arith) ]

-- what is before another comes before what that is not after
pub not_after_before : (xs ys : List ℕ) → before xs ys ≡ true → before ys xs ≡ false
not_after_before [] [] p = refl
not_after_before [] (y ∷ ys) p = refl
not_after_before (x ∷ xs) [] p = absurd (true≢false (sym p))
not_after_before (x ∷ xs) (y ∷ ys) p =
    elim (cases_order x y) [
      | inl same ↦ same_head y x ys xs (sym same) ∙ not_after_before xs ys (sym (same_head x y xs ys same) ∙ p)
      | inr (inl less) ↦ more_head y x ys xs less
      | inr (inr more) ↦ absurd (true≢false (sym p ∙ more_head x y xs ys more))
    ]

-- the same of breaks
pub not_itself : (a : Break) → is_before a a ≡ false
unfolding is_before
not_itself a = not_before_itself (rank a)

pub follows_on : (a b c : Break) → is_before c b ≡ false → is_before b a ≡ false → is_before c a ≡ false
unfolding is_before
follows_on a b c p q = not_before (rank a) (rank b) (rank c) p q

pub not_back : (a b : Break) → is_before a b ≡ true → is_before b a ≡ false
unfolding is_before
not_back a b p = not_after_before (rank a) (rank b) p
