-- A list from its end.
use Rattle.std.proofs.Common.{◌≡◌, ℕ, suc, ◌-◌, ◌<◌, ◌≤◌, List, ◌∷◌, length, get_or, drop, sym, ap, ◌∙◌, arith}
use Rattle.std.proofs.Math.Seq.{drop-cons}

-- one more element in front of those that were passed
pub drop_before : {A : Type 0} (xs : List A) (i : ℕ) (x : A) → 0 < i → i ≤ length xs → x ≡ get_or xs (i - 1) x → x ∷ drop i xs ≡ drop (i - 1) xs
drop_before xs i x low high e =
    let next : suc (i - 1) ≡ i = omega arith in
    let within : i - 1 < length xs = omega arith in
    ap (λ y. y ∷ drop i xs) e ∙ ap (λ j. get_or xs (i - 1) x ∷ drop j xs) (sym next) ∙ sym (drop-cons xs (i - 1) x within)
