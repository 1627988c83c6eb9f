-- What digits write.
use Rattle.std.proofs.Common.{◌≡◌, ℕ, ◌+◌, ◌-◌, ◌*◌, ◌<◌, ◌≤◌, List, [], ◌∷◌, None, fold, take, drop, get_or, length, refl, sym, ap, ◌∙◌, subst, arith, lt-ltb, take-append-drop}
use Rattle.std.proofs.lemmas.List.Sums.{fold-append, fold_more}
use Rattle.f3_lex.specs.Faults.{value_of_digits, value_within}

-- more digits make no smaller number
grows : (n : ℕ) (digits : List ℕ) → n ≤ fold (λ m digit. m * 10 + (digit - 48)) n digits
grows n [] = omega arith
grows n (digit ∷ digits) = let more = grows (n * 10 + (digit - 48)) digits in omega arith

front_grows : (i : ℕ) (digits : List ℕ) → value_of_digits (take i digits) ≤ value_of_digits digits
front_grows i digits =
    let split = sym (fold-append (λ m digit. m * 10 + (digit - 48)) 0 (take i digits) (drop i digits)) ∙ ap value_of_digits (take-append-drop i digits) in
    subst (λ n. value_of_digits (take i digits) ≤ n) split (grows (value_of_digits (take i digits)) (drop i digits))

-- too large as soon as some digits of the front are
pub too_large : (most : ℕ) (digits : List ℕ) (i n : ℕ) → i < length digits → n ≡ value_of_digits (take i digits) → most < n * 10 + (get_or digits i 0 - 48) → value_within most digits ≡ None
unfolding value_within
too_large most digits i n there e h =
    let step = fold_more (λ m digit. m * 10 + (digit - 48)) 0 digits i 0 there in
    let whole = front_grows (i + 1) digits in
    let past : most < value_of_digits digits = omega (arith, e, step, whole, h) in
    rw (lt-ltb _ _ past) refl
