-- Walks along a list, one item after the other.
use Rattle.std.proofs.Common.{◌≡◌, ℕ, ◌+◌, ◌<◌, List, [], ◌∷◌, ◌++◌, map, take, get_or, length, refl, ap, sym, ◌∙◌}
use Rattle.std.proofs.lemmas.List.{take_more, map-append, append-nil}
use Rattle.std.proofs.Common.{append_assoc, Option}
use Rattle.std.specs.List.{flat_map}
use Rattle.f3_rules.specs.declared.breaks.Break.{Break}
use Rattle.f3_typed_parts.specs.Noted.{noted}
use Rattle.f3_typed_parts.proofs.Noting.{noted_more}
use Rattle.f3_type_rules.specs.Walks.{after, along}

pub after_append : {S X : Type 0} (next : S → X → S) (s : S) (xs ys : List X) → after next s (xs ++ ys) ≡ after next (after next s xs) ys
after_append next s [] ys = refl
after_append next s (x ∷ xs) ys = after_append next (next s x) xs ys

pub along_append : {S X : Type 0} (rows : S → X → List Break) (next : S → X → S) (s : S) (xs ys : List X)
    → along rows next s (xs ++ ys) ≡ along rows next s xs ++ along rows next (after next s xs) ys
along_append rows next s [] ys = refl
along_append rows next s (x ∷ xs) ys = ap (λ zs. rows s x ++ zs) (along_append rows next (next s x) xs ys) ∙ sym (append_assoc (rows s x) (along rows next (next s x) xs) (along rows next (after next (next s x) xs) ys))

taken : {X Y : Type 0} (f : X → Y) (xs : List X) (i : ℕ) (x : X) → i < length xs → x ≡ get_or xs i x → map f (take (i + 1) xs) ≡ map f (take i xs) ++ (f x ∷ [])
taken f xs i x lt is =
    ap (map f) (take_more xs i x lt ∙ ap (λ y. take i xs ++ (y ∷ [])) (sym is))
    ∙ map-append f (take i xs) (x ∷ [])

-- one item more
pub after_more : {S X Y : Type 0} (next : S → Y → S) (f : X → Y) (s : S) (xs : List X) (i : ℕ) (x : X) → i < length xs → x ≡ get_or xs i x
    → next (after next s (map f (take i xs))) (f x) ≡ after next s (map f (take (i + 1) xs))
after_more next f s xs i x lt is = sym (ap (after next s) (taken f xs i x lt is) ∙ after_append next s (map f (take i xs)) (f x ∷ []))

pub along_more : {S X Y : Type 0} (rows : S → Y → List Break) (next : S → Y → S) (f : X → Y) (s : S) (xs : List X) (i : ℕ) (x : X) → i < length xs → x ≡ get_or xs i x
    → along rows next s (map f (take i xs)) ++ rows (after next s (map f (take i xs))) (f x) ≡ along rows next s (map f (take (i + 1) xs))
along_more rows next f s xs i x lt is = sym (
    ap (along rows next s) (taken f xs i x lt is)
    ∙ along_append rows next s (map f (take i xs)) (f x ∷ [])
    ∙ ap (λ zs. along rows next s (map f (take i xs)) ++ zs) (append-nil (rows (after next s (map f (take i xs))) (f x))))

-- what was noted of one item more
pub along_noted : {S X Y : Type 0} (rows : S → Y → List Break) (next : S → Y → S) (f : X → Y) (s : S) (xs : List X) (i : ℕ) (x : X) (old before now : Option Break)
    → i < length xs → x ≡ get_or xs i x
    → before ≡ noted old (along rows next s (map f (take i xs)))
    → now ≡ noted before (rows (after next s (map f (take i xs))) (f x))
    → now ≡ noted old (along rows next s (map f (take (i + 1) xs)))
along_noted rows next f s xs i x old before now lt is p q =
    q ∙ ap (λ z. noted z (rows (after next s (map f (take i xs))) (f x))) p
    ∙ noted_more old (along rows next s (map f (take i xs))) (rows (after next s (map f (take i xs))) (f x))
    ∙ ap (noted old) (along_more rows next f s xs i x lt is)

flat_map_push : {X Y : Type 0} (f : X → List Y) (xs : List X) (x : X) → flat_map f (xs ++ (x ∷ [])) ≡ flat_map f xs ++ f x
flat_map_push f [] x = append-nil (f x)
flat_map_push f (y ∷ ys) x = ap (λ zs. f y ++ zs) (flat_map_push f ys x) ∙ sym (append_assoc (f y) (flat_map f ys) (f x))

-- a walk along what a list has in all its items: one item more
pub after_flat_more : {S X Y : Type 0} (next : S → Y → S) (f : X → List Y) (s : S) (xs : List X) (i : ℕ) (x : X) → i < length xs → x ≡ get_or xs i x
    → after next (after next s (flat_map f (take i xs))) (f x) ≡ after next s (flat_map f (take (i + 1) xs))
after_flat_more next f s xs i x lt is = sym (
    ap (λ ys. after next s (flat_map f ys)) (take_more xs i x lt ∙ ap (λ y. take i xs ++ (y ∷ [])) (sym is))
    ∙ ap (after next s) (flat_map_push f (take i xs) x)
    ∙ after_append next s (flat_map f (take i xs)) (f x))
