-- Walks that make lists: one item more.
use Rattle.std.proofs.Common.{◌≡◌, ℕ, ◌+◌, ◌<◌, List, [], ◌∷◌, ◌++◌, map, filter, length, drop, get_or, Bool, true, false, cond, append_assoc, refl, ap, sym, ◌∙◌, arith}
use Rattle.std.proofs.lemmas.List.{at_drop_more, map-append}

-- each item makes some by a number, which grows
pub walked : {Y Z : Type 0} (one : ℕ → Y → List Z) (rows : ℕ → List Y → List Z) (next : ℕ → Y → ℕ)
    → ((n : ℕ) (y : Y) (ys : List Y) → rows n (y ∷ ys) ≡ one n y ++ rows (next n y) ys)
    → (ys : List Y) (i : ℕ) (y : Y) (n m : ℕ) (before after whole : List Z) → i < length ys → y ≡ get_or ys i y
    → m ≡ next n y → after ≡ before ++ one n y
    → before ++ rows n (drop i ys) ≡ whole → after ++ rows m (drop (i + 1) ys) ≡ whole
walked one rows next more ys i y n m before after whole lt is e g h =
    let z = get_or ys i y in
    let rest = drop (i + 1) ys in
    ap (λ k. after ++ rows k rest) (e ∙ ap (next n) is)
    ∙ ap (λ zs. zs ++ rows (next n z) rest) (g ∙ ap (λ x. before ++ one n x) is)
    ∙ append_assoc before (one n z) (rows (next n z) rest)
    ∙ ap (λ zs. before ++ zs) (sym (at_drop_more (rows n) ys i y lt ∙ more n z rest)) ∙ h

-- each item makes some
pub grown : {Y Z : Type 0} (one : Y → List Z) (rows : List Y → List Z) → ((y : Y) (ys : List Y) → rows (y ∷ ys) ≡ one y ++ rows ys)
    → (ys : List Y) (i : ℕ) (y : Y) (before after whole : List Z) → i < length ys → y ≡ get_or ys i y
    → after ≡ before ++ one y
    → before ++ rows (drop i ys) ≡ whole → after ++ rows (drop (i + 1) ys) ≡ whole
grown one rows more ys i y before after whole lt is g h =
    walked (λ n. one) (λ n. rows) (λ n x. n) (λ n. more) ys i y 0 0 before after whole lt is refl g h

-- what is made of those that are picked
picked_both : {X : Type 0} (p : X → Bool) (xs ys : List X) → filter p (xs ++ ys) ≡ filter p xs ++ filter p ys
picked_both p [] ys = refl
picked_both {X = X} p (x ∷ xs) ys = step (p x) (picked_both p xs ys)
  where
    step : (b : Bool) → filter p (xs ++ ys) ≡ filter p xs ++ filter p ys
        → cond b (x ∷ filter p (xs ++ ys)) (filter p (xs ++ ys)) ≡ cond b (x ∷ filter p xs) (filter p xs) ++ filter p ys
    step true h = ap (λ zs. x ∷ zs) h
    step false h = h

pub picked : {X Z : Type 0} (f : X → Z) (p : X → Bool) (xs ys : List X) → map f (filter p (xs ++ ys)) ≡ map f (filter p xs) ++ map f (filter p ys)
picked f p xs ys = ap (map f) (picked_both p xs ys) ∙ map-append f (filter p xs) (filter p ys)

-- what items take together with a number that grows by it
pub numbered : {Y : Type 0} (width : Y → ℕ) (all : List Y → ℕ) → ((y : Y) (ys : List Y) → all (y ∷ ys) ≡ width y + all ys)
    → (ys : List Y) (i : ℕ) (y : Y) (n m whole : ℕ) → i < length ys → y ≡ get_or ys i y → m ≡ n + width y
    → n + all (drop i ys) ≡ whole → m + all (drop (i + 1) ys) ≡ whole
numbered width all sum ys i y n m whole lt is e h =
    let f : all (drop i ys) ≡ width y + all (drop (i + 1) ys) =
    at_drop_more all ys i y lt ∙ ap (λ z. all (z ∷ drop (i + 1) ys)) (sym is) ∙ sum y (drop (i + 1) ys) in
    omega (arith, e, f)
