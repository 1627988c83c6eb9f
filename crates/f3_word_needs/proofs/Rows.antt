-- What is left of rows.
use Rattle.std.proofs.Common.{◌≡◌, ◌≤◌, ◌<◌, ℕ, zero, suc, ◌+◌, List, [], ◌∷◌, length, drop, get_or, max, refl, sym, ap, ◌∙◌, arith}
use Rattle.f3_gen_values.specs.declared.line.Line.{Line}
use Rattle.f3_word_needs.specs.Names.{after_line, deepest_among, open_among}

pub drop_all : {A : Type 0} (xs : List A) (i : ℕ) → length xs ≤ i → drop i xs ≡ []
drop_all [] zero le = refl
drop_all [] (suc i) le = refl
drop_all (x ∷ xs) zero le = absurd (omega (arith, le))
drop_all (x ∷ xs) (suc i) le = drop_all xs i (omega (arith, le))

pub drop_in : {A : Type 0} (xs : List A) (i : ℕ) (d : A) → i < length xs → drop i xs ≡ get_or xs i d ∷ drop (i + 1) xs
drop_in [] i d lt = absurd (omega (arith, lt))
drop_in (y ∷ xs) zero d lt = let one : 0 + 1 ≡ suc 0 = omega arith in ap (λ k. y ∷ drop k (y ∷ xs)) (sym one)
drop_in (y ∷ xs) (suc i) d lt =
    let one : suc i + 1 ≡ suc (i + 1) = omega arith in
    drop_in xs i d (omega (arith, lt)) ∙ ap (λ k. get_or xs i d ∷ drop k (y ∷ xs)) (sym one)

module _ (lines : List Line) (i now : ℕ) (d : Line) (lt : i < length lines) where
  next_deepest : deepest_among now (drop i lines) ≡ max now (deepest_among (after_line now (get_or lines i d).act) (drop (i + 1) lines))
  next_deepest = ap (λ ls. deepest_among now ls) (drop_in lines i d lt)

least : (n : ℕ) (ls : List Line) → n ≤ deepest_among n ls
least n [] = omega arith
least n (l ∷ ls) = omega arith

pub too_deep : (lines : List Line) (i now most limit : ℕ) (d : Line) → i < length lines → max most (deepest_among now (drop i lines)) ≡ open_among lines →
    limit ≤ after_line now (get_or lines i d).act → limit ≤ open_among lines
too_deep lines i now most limit d lt e h = omega (arith, next_deepest lines i now d lt, e, h, least (after_line now (get_or lines i d).act) (drop (i + 1) lines))

pub deeper : (lines : List Line) (i now most next most' : ℕ) (d : Line) → i < length lines → now ≤ most → max most (deepest_among now (drop i lines)) ≡ open_among lines →
    next ≡ after_line now (get_or lines i d).act → most' ≡ max most next → max most' (deepest_among next (drop (i + 1) lines)) ≡ open_among lines
deeper lines i now most next most' d lt le e f g =
    let n = next_deepest lines i now d lt in
    let z = ap (λ k. deepest_among k (drop (i + 1) lines)) f in
    omega (arith, n, e, g, z, le, least next (drop (i + 1) lines))
