-- What stands in lists.
use Rattle.std.proofs.Common.{◌≡◌, ◌∙◌, ℕ, zero, suc, ◌+◌, ◌<◌, ◌≤◌, true, List, [], ◌∷◌, length, take, drop, get_or, refl, sym, ap, subst, arith}
use Rattle.std.specs.Prelude.{None, Some, slice_get, map, nat_lt}
use Rattle.std.specs.Option.{option_map}
use Rattle.std.proofs.lemmas.Bool.{ltb-true}
use Rattle.std.proofs.lemmas.Option.{slice_get_read}

-- what was looked up
pub found : {A : Type 0} (xs ys : List A) (i : ℕ) (x : A) → xs ≡ ys → true ≡ nat_lt i (length xs) → x ≡ get_or xs i x → slice_get ys i ≡ Some x
found {A} xs ys i x same lt is = subst (λ (zs : List A). slice_get zs i ≡ Some x) same (slice_get_read xs (length xs) i x refl (ltb-true i (length xs) (sym lt)) is)

pub get-mapped : {A B : Type 0} (f : A → B) (xs : List A) (i : ℕ) → slice_get (map f xs) i ≡ option_map f (slice_get xs i)
get-mapped f [] i = refl
get-mapped f (x ∷ xs) zero = refl
get-mapped f (x ∷ xs) (suc i) = get-mapped f xs i

pub get-dropped : {A : Type 0} (k i : ℕ) (xs : List A) → slice_get (drop k xs) i ≡ slice_get xs (k + i)
get-dropped zero i xs = ap (slice_get xs) (omega arith)
get-dropped (suc k) i [] = refl
get-dropped (suc k) i (x ∷ xs) = get-dropped k i xs ∙ ap (slice_get (x ∷ xs)) (let e : suc (k + i) ≡ suc k + i = omega arith in e)

pub get-taken : {A : Type 0} (n i : ℕ) (xs : List A) → i < n → slice_get (take n xs) i ≡ slice_get xs i
get-taken zero i xs lt = absurd (omega arith)
get-taken (suc n) i [] lt = refl
get-taken (suc n) zero (x ∷ xs) lt = refl
get-taken (suc n) (suc i) (x ∷ xs) lt = get-taken n i xs (omega arith)

pub get-past-taken : {A : Type 0} (n i : ℕ) (xs : List A) → n ≤ i → slice_get (take n xs) i ≡ None
get-past-taken zero i xs le = refl
get-past-taken (suc n) i [] le = refl
get-past-taken (suc n) zero (x ∷ xs) le = absurd (omega arith)
get-past-taken (suc n) (suc i) (x ∷ xs) le = get-past-taken n i xs (omega arith)
