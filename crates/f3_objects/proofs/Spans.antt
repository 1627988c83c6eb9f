-- Laws on a list's part that begins at a place.
use Rattle.std.proofs.Common.{◌≡◌, ℕ, ℤ, suc, set, get_or, ◌⊎◌, inl, inr, ◌+◌, ◌-◌, ◌<◌, ◌≤◌, List, [], ◌∷◌, ◌++◌, length, take, drop, refl, ap, sym, ◌∙◌, arith, append_assoc, length-append, length-drop}
use Rattle.std.proofs.lemmas.List.{take_at, drop_at, drop-drop, length-take-le, take-append-drop, drop-take, take-append-le, take-take, take-set-le, drop-set-lt, drop-set-add, get_or-take, get_or-drop, set_split}
use Rattle.f3_objects.specs.Holds.{with_words_at}

pub length-written : (xs : List ℤ) (at : ℕ) (ys : List ℤ) → at + length ys ≤ length xs → length (with_words_at xs at ys) ≡ length xs
length-written xs at ys h =
    let a = length-append (take at xs) (ys ++ drop (at + length ys) xs) in
    let b = length-append ys (drop (at + length ys) xs) in
    let c : length (take at xs) ≡ at = length-take-le at xs (omega arith) in
    let d = length-drop (at + length ys) xs in
    omega arith

front-length : (xs : List ℤ) (at : ℕ) (ys : List ℤ) → at ≤ length xs → length (take at xs ++ ys) ≡ at + length ys
front-length xs at ys h =
    let a = length-append (take at xs) ys in
    let c : length (take at xs) ≡ at = length-take-le at xs h in
    omega arith

regrouped : (xs : List ℤ) (at : ℕ) (ys : List ℤ) → with_words_at xs at ys ≡ (take at xs ++ ys) ++ drop (at + length ys) xs
regrouped xs at ys = sym (append_assoc (take at xs) ys (drop (at + length ys) xs))

pub take-written : (xs : List ℤ) (at : ℕ) (ys : List ℤ) → at ≤ length xs → take (at + length ys) (with_words_at xs at ys) ≡ take at xs ++ ys
take-written xs at ys h = ap (take (at + length ys)) (regrouped xs at ys) ∙ take_at (take at xs ++ ys) (drop (at + length ys) xs) (at + length ys) (front-length xs at ys h)

pub drop-written : (xs : List ℤ) (at : ℕ) (ys : List ℤ) → at ≤ length xs → drop (at + length ys) (with_words_at xs at ys) ≡ drop (at + length ys) xs
drop-written xs at ys h = ap (drop (at + length ys)) (regrouped xs at ys) ∙ drop_at (take at xs ++ ys) (drop (at + length ys) xs) (at + length ys) (front-length xs at ys h)

-- what was written is there
pub written_there : (xs : List ℤ) (at : ℕ) (ys : List ℤ) → at ≤ length xs → take (length ys) (drop at (with_words_at xs at ys)) ≡ ys
written_there xs at ys h =
    ap (take (length ys)) (drop_at (take at xs) (ys ++ drop (at + length ys) xs) at (length-take-le at xs h)) ∙ take_at ys (drop (at + length ys) xs) (length ys) refl

-- one part behind another
pub written_behind : (xs : List ℤ) (at : ℕ) (ys zs : List ℤ) → at ≤ length xs → with_words_at (with_words_at xs at ys) (at + length ys) zs ≡ with_words_at xs at (ys ++ zs)
written_behind xs at ys zs h =
    let n = at + length ys in
    let front : take n (with_words_at xs at ys) ≡ take at xs ++ ys = take-written xs at ys h in
    let back : drop (n + length zs) (with_words_at xs at ys) ≡ drop (n + length zs) xs =
    sym (drop-drop (length zs) n (with_words_at xs at ys)) ∙ (ap (drop (length zs)) (drop-written xs at ys h) ∙ drop-drop (length zs) n xs) in
    let len : n + length zs ≡ at + length (ys ++ zs) = omega (arith, length-append ys zs) in
    let a : take n (with_words_at xs at ys) ++ (zs ++ drop (n + length zs) (with_words_at xs at ys)) ≡ (take at xs ++ ys) ++ (zs ++ drop (n + length zs) (with_words_at xs at ys)) = ap (λ (l : List ℤ). l ++ (zs ++ drop (n + length zs) (with_words_at xs at ys))) front in
    let b : (take at xs ++ ys) ++ (zs ++ drop (n + length zs) (with_words_at xs at ys)) ≡ (take at xs ++ ys) ++ (zs ++ drop (at + length (ys ++ zs)) xs) = ap (λ (l : List ℤ). (take at xs ++ ys) ++ (zs ++ l)) (back ∙ ap (λ (k : ℕ). drop k xs) len) in
    let c : (take at xs ++ ys) ++ (zs ++ drop (at + length (ys ++ zs)) xs) ≡ take at xs ++ (ys ++ (zs ++ drop (at + length (ys ++ zs)) xs)) = append_assoc (take at xs) ys _ in
    let d : take at xs ++ (ys ++ (zs ++ drop (at + length (ys ++ zs)) xs)) ≡ take at xs ++ ((ys ++ zs) ++ drop (at + length (ys ++ zs)) xs) = ap (λ (l : List ℤ). take at xs ++ l) (sym (append_assoc ys zs _)) in
    a ∙ (b ∙ (c ∙ d))

-- the same part again
pub written_again : (xs : List ℤ) (at : ℕ) (ys zs : List ℤ) → at ≤ length xs → length ys ≡ length zs → with_words_at (with_words_at xs at ys) at zs ≡ with_words_at xs at zs
written_again xs at ys zs h e =
    let front : take at (with_words_at xs at ys) ≡ take at xs = take_at (take at xs) (ys ++ drop (at + length ys) xs) at (length-take-le at xs h) in
    let back : drop (at + length zs) (with_words_at xs at ys) ≡ drop (at + length zs) xs =
    ap (λ (n : ℕ). drop (at + n) (with_words_at xs at ys)) (sym e) ∙ (drop-written xs at ys h ∙ ap (λ (n : ℕ). drop (at + n) xs) e) in
    ap (λ (l : List ℤ). l ++ (zs ++ drop (at + length zs) (with_words_at xs at ys))) front ∙ ap (λ (l : List ℤ). take at xs ++ (zs ++ l)) back

-- what stands there already
pub written_same : (xs : List ℤ) (at : ℕ) (ys : List ℤ) → take (length ys) (drop at xs) ≡ ys → with_words_at xs at ys ≡ xs
written_same xs at ys e =
    let tail : ys ++ drop (at + length ys) xs ≡ drop at xs =
    ap (λ (l : List ℤ). l ++ drop (at + length ys) xs) (sym e) ∙ (ap (λ (l : List ℤ). take (length ys) (drop at xs) ++ l) (sym (drop-drop (length ys) at xs)) ∙ take-append-drop (length ys) (drop at xs)) in
    ap (λ (l : List ℤ). take at xs ++ l) tail ∙ take-append-drop at xs

-- what is written over a whole list
pub written_whole : (xs ys : List ℤ) → length xs ≡ length ys → with_words_at xs 0 ys ≡ ys
written_whole xs ys e =
    let none : drop (0 + length ys) xs ≡ [] = ap (λ (n : ℕ). drop n xs) (omega (arith, e)) ∙ dropped xs in
    ap (λ (l : List ℤ). ys ++ l) none ∙ append_nil ys
  where
    dropped : (l : List ℤ) → drop (length l) l ≡ []
    dropped [] = refl
    dropped (x ∷ l) = dropped l

    append_nil : (l : List ℤ) → l ++ [] ≡ l
    append_nil [] = refl
    append_nil (x ∷ l) = ap (λ (m : List ℤ). x ∷ m) (append_nil l)

-- what is behind the part
pub behind_written : (xs : List ℤ) (at n : ℕ) (ys : List ℤ) → at ≤ length xs → take n (drop (at + length ys) (with_words_at xs at ys)) ≡ take n (drop (at + length ys) xs)
behind_written xs at n ys h = ap (take n) (drop-written xs at ys h)

-- a part of two
pub front_part : (xs ys zs : List ℤ) (at : ℕ) → take (length (ys ++ zs)) (drop at xs) ≡ ys ++ zs → take (length ys) (drop at xs) ≡ ys
front_part xs ys zs at e =
    let le : length ys ≤ length (ys ++ zs) = omega (arith, length-append ys zs) in
    sym (take-take (length ys) (length (ys ++ zs)) (drop at xs) le) ∙ (ap (take (length ys)) e ∙ take_at ys zs (length ys) refl)

pub back_part : (xs ys zs : List ℤ) (at : ℕ) → take (length (ys ++ zs)) (drop at xs) ≡ ys ++ zs → take (length zs) (drop (at + length ys) xs) ≡ zs
back_part xs ys zs at e =
    let len : length (ys ++ zs) ≡ length ys + length zs = length-append ys zs in
    let a : take (length zs) (drop (at + length ys) xs) ≡ take (length zs) (drop (length ys) (drop at xs)) = ap (take (length zs)) (sym (drop-drop (length ys) at xs)) in
    let b : take (length zs) (drop (length ys) (drop at xs)) ≡ drop (length ys) (take (length ys + length zs) (drop at xs)) = sym (drop-take (length ys) (length zs) (drop at xs)) in
    let c : drop (length ys) (take (length ys + length zs) (drop at xs)) ≡ drop (length ys) (ys ++ zs) = ap (drop (length ys)) (ap (λ (n : ℕ). take n (drop at xs)) (sym len) ∙ e) in
    a ∙ (b ∙ (c ∙ drop_at ys zs (length ys) refl))

-- one word of a part is written anew
pub written_first : (xs : List ℤ) (at : ℕ) (x y : ℤ) (ys : List ℤ) → at < length xs → take (length (x ∷ ys)) (drop at xs) ≡ x ∷ ys → set xs at y ≡ with_words_at xs at (y ∷ ys)
written_first xs at x y ys l e =
    let whole : (x ∷ ys) ++ drop (length (x ∷ ys)) (drop at xs) ≡ drop at xs = ap (λ (t : List ℤ). t ++ drop (length (x ∷ ys)) (drop at xs)) (sym e) ∙ take-append-drop (length (x ∷ ys)) (drop at xs) in
    let rest : ys ++ drop (length (x ∷ ys)) (drop at xs) ≡ drop 1 (drop at xs) = ap (drop 1) whole in
    let one : drop 1 (drop at xs) ≡ drop (suc at) xs = drop-drop 1 at xs ∙ (let n : at + 1 ≡ suc at = omega arith in ap (λ (n : ℕ). drop n xs) n) in
    let tail : drop (suc at) xs ≡ ys ++ drop (at + length (y ∷ ys)) xs = sym one ∙ (sym rest ∙ ap (λ (t : List ℤ). ys ++ t) (drop-drop (length (x ∷ ys)) at xs)) in
    set_split xs at y l ∙ ap (λ (t : List ℤ). take at xs ++ (y ∷ t)) tail

-- outside the part
pub before_written : (xs : List ℤ) (at k : ℕ) (ys : List ℤ) → k ≤ at → at ≤ length xs → take k (with_words_at xs at ys) ≡ take k xs
before_written xs at k ys l m =
    let len : length (take at xs) ≡ at = length-take-le at xs m in
    take-append-le k (take at xs) (ys ++ drop (at + length ys) xs) (omega arith) ∙ take-take k at xs l

window_of : (xs : List ℤ) (a n : ℕ) → take n (drop a xs) ≡ drop a (take (a + n) xs)
window_of xs a n = sym (drop-take a n xs)

pub window_before : (xs : List ℤ) (at a n : ℕ) (ys : List ℤ) → a + n ≤ at → at ≤ length xs → take n (drop a (with_words_at xs at ys)) ≡ take n (drop a xs)
window_before xs at a n ys l m = window_of (with_words_at xs at ys) a n ∙ (ap (drop a) (before_written xs at (a + n) ys l m) ∙ sym (window_of xs a n))

pub drop_behind : (xs : List ℤ) (at a : ℕ) (ys : List ℤ) → at + length ys ≤ a → at ≤ length xs → drop a (with_words_at xs at ys) ≡ drop a xs
drop_behind xs at a ys l m =
    let e : at + length ys + (a - (at + length ys)) ≡ a = omega arith in
    ap (λ (n : ℕ). drop n (with_words_at xs at ys)) (sym e)
    ∙ (sym (drop-drop (a - (at + length ys)) (at + length ys) (with_words_at xs at ys))
    ∙ (ap (drop (a - (at + length ys))) (drop-written xs at ys m)
    ∙ (drop-drop (a - (at + length ys)) (at + length ys) xs ∙ ap (λ (n : ℕ). drop n xs) e)))

pub window_behind : (xs : List ℤ) (at a n : ℕ) (ys : List ℤ) → at + length ys ≤ a → at ≤ length xs → take n (drop a (with_words_at xs at ys)) ≡ take n (drop a xs)
window_behind xs at a n ys l m = ap (take n) (drop_behind xs at a ys l m)

-- a word written before or behind a part
pub window_set_before : (xs : List ℤ) (i a n : ℕ) (y : ℤ) → i < a → take n (drop a (set xs i y)) ≡ take n (drop a xs)
window_set_before xs i a n y l = ap (take n) (drop-set-lt a xs i y l)

pub window_set_behind : (xs : List ℤ) (i a n : ℕ) (y : ℤ) → a + n ≤ i → take n (drop a (set xs i y)) ≡ take n (drop a xs)
window_set_behind xs i a n y l = window_of (set xs i y) a n ∙ (ap (drop a) (take-set-le (a + n) xs i y l) ∙ sym (window_of xs a n))

-- a part's first word written anew
first_anew : (l : List ℤ) (x y : ℤ) (ys : List ℤ) → take (suc (length ys)) l ≡ x ∷ ys → take (suc (length ys)) (set l 0 y) ≡ y ∷ ys
first_anew [] x y ys e = cc
first_anew (z ∷ l) x y ys e = ap (λ (k : List ℤ). y ∷ k) (ap (drop 1) e)

pub window_anew : (xs : List ℤ) (at : ℕ) (x y : ℤ) (ys : List ℤ) → take (length (x ∷ ys)) (drop at xs) ≡ x ∷ ys → take (length (y ∷ ys)) (drop at (set xs at y)) ≡ y ∷ ys
window_anew xs at x y ys e =
    let z : at + 0 ≡ at = omega arith in
    ap (λ (k : ℕ). take (length (y ∷ ys)) (drop at (set xs k y))) (sym z) ∙ (ap (take (length (y ∷ ys))) (drop-set-add at xs 0 y) ∙ first_anew (drop at xs) x y ys e)

-- a word read outside the part
pub read_outside : (xs : List ℤ) (at k : ℕ) (ys : List ℤ) (d : ℤ) → at ≤ length xs → (k < at) ⊎ (at + length ys ≤ k) → get_or (with_words_at xs at ys) k d ≡ get_or xs k d
read_outside xs at k ys d m (inl l) =
    let n : k < k + 1 = omega arith in
    sym (get_or-take (k + 1) (with_words_at xs at ys) k d n) ∙ (ap (λ (t : List ℤ). get_or t k d) (before_written xs at (k + 1) ys (omega arith) m) ∙ get_or-take (k + 1) xs k d n)
read_outside xs at k ys d m (inr l) =
    let z : k + 0 ≡ k = omega arith in
    ap (λ (n : ℕ). get_or (with_words_at xs at ys) n d) (sym z) ∙ (sym (get_or-drop k (with_words_at xs at ys) 0 d) ∙ (ap (λ (t : List ℤ). get_or t 0 d) (drop_behind xs at k ys l m) ∙ (get_or-drop k xs 0 d ∙ ap (λ (n : ℕ). get_or xs n d) z)))
