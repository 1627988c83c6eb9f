-- The latest of some things, which stand in memory the other way around.
use Rattle.std.proofs.Common.{◌≡◌, ◌-◌, ◌<◌, List, ◌∷◌, length, get_or, drop, reverse, sym, ap, ◌∙◌, arith}
use Rattle.std.proofs.Math.Seq.{drop-cons}
use Rattle.std.proofs.lemmas.List.{get_or-reverse, length-reverse}

pub latest_first : {X : Type 0} (xs : List X) (x : X) → 0 < length xs → x ≡ get_or xs (length xs - 1) x → reverse xs ≡ x ∷ drop 1 (reverse xs)
latest_first xs x h e =
    let short : 0 < length (reverse xs) = omega (arith, length-reverse xs) in
    let place : length xs - 1 - 0 ≡ length xs - 1 = omega arith in
    let it : get_or (reverse xs) 0 x ≡ x = get_or-reverse xs 0 x h ∙ ap (λ k. get_or xs k x) place ∙ sym e in
    drop-cons (reverse xs) 0 x short ∙ ap (λ y. y ∷ drop 1 (reverse xs)) it
