-- The latest of some things, which stand in memory the other way around.
use Rattle.std.proofs.Common.{◌≡◌, ◌-◌, ◌<◌, List, ◌∷◌, length, get_or, map, drop, reverse, sym, ap, ◌∙◌, arith}
use Rattle.std.proofs.Math.Seq.{drop-cons}
use Rattle.std.proofs.lemmas.List.{drop-map, get_or-reverse, length-reverse}

pub latest_first : {X Y : Type 0} (f : X → Y) (xs : List X) (x : X) → 0 < length xs → x ≡ get_or xs (length xs - 1) x
    → map f (reverse xs) ≡ f x ∷ drop 1 (map f (reverse xs))
latest_first f xs x h e =
    let short : 0 < length (reverse xs) = omega (arith, length-reverse xs) in
    let place : length xs - 1 - 0 ≡ length xs - 1 = omega arith in
    let it : get_or (reverse xs) 0 x ≡ x = get_or-reverse xs 0 x h ∙ ap (λ k. get_or xs k x) place ∙ sym e in
    ap (map f) (drop-cons (reverse xs) 0 x short)
    ∙ ap (λ y. f y ∷ map f (drop 1 (reverse xs))) it
    ∙ ap (λ ys. f x ∷ ys) (sym (drop-map f 1 (reverse xs)))
