-- Walks along what a list has in all its items.
use Rattle.std.proofs.Common.{◌≡◌, ℕ, ◌+◌, ◌<◌, List, [], ◌∷◌, ◌++◌, length, take, get_or, Option, ap, sym, ◌∙◌}
use Rattle.std.specs.List.{flat_map}
use Rattle.std.proofs.lemmas.List.{take_more, append-nil}
use Rattle.std.proofs.lemmas.Grind.{flat_map-append}
use Rattle.f3_rules.specs.declared.breaks.Break.{Break}
use Rattle.f3_typed_parts.specs.Noted.{noted}
use Rattle.f3_typed_parts.proofs.Noting.{noted_more}
use Rattle.f3_type_rules.specs.Walks.{after, along}
use Rattle.f3_part_rules.proofs.Walking.{after_append, along_append}

taken : {X Y : Type 0} (f : X → List Y) (xs : List X) (i : ℕ) (d : X) → i < length xs → flat_map f (take (i + 1) xs) ≡ flat_map f (take i xs) ++ f (get_or xs i d)
taken f xs i d lt =
    ap (flat_map f) (take_more xs i d lt)
    ∙ flat_map-append f (take i xs) (get_or xs i d ∷ [])
    ∙ ap (λ zs. flat_map f (take i xs) ++ zs) (append-nil (f (get_or xs i d)))

-- one item more
pub after_more : {S X Y : Type 0} (next : S → Y → S) (f : X → List Y) (s : S) (xs : List X) (i : ℕ) (d : X) → i < length xs
    → after next (after next s (flat_map f (take i xs))) (f (get_or xs i d)) ≡ after next s (flat_map f (take (i + 1) xs))
after_more next f s xs i d lt =
    sym (ap (after next s) (taken f xs i d lt) ∙ after_append next s (flat_map f (take i xs)) (f (get_or xs i d)))

-- and what was noted of it
pub along_noted : {S X Y : Type 0} (rows : S → Y → List Break) (next : S → Y → S) (f : X → List Y) (s : S) (xs : List X) (i : ℕ) (d : X) (old before now : Option Break)
    → i < length xs
    → before ≡ noted old (along rows next s (flat_map f (take i xs)))
    → now ≡ noted before (along rows next (after next s (flat_map f (take i xs))) (f (get_or xs i d)))
    → now ≡ noted old (along rows next s (flat_map f (take (i + 1) xs)))
along_noted rows next f s xs i d old before now lt p q =
    let ys = flat_map f (take i xs) in
    let rest = along rows next (after next s ys) (f (get_or xs i d)) in
    q ∙ ap (λ z. noted z rest) p
    ∙ noted_more old (along rows next s ys) rest
    ∙ ap (noted old) (sym (ap (along rows next s) (taken f xs i d lt) ∙ along_append rows next s ys (f (get_or xs i d))))
