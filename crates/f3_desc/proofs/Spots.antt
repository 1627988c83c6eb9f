-- Places of elements, from a place on.
use Rattle.std.proofs.Common.{◌≡◌, ◌∙◌, ap, refl, ⊎_elim, ℕ, zero, suc, List, [], ◌∷◌, ◌++◌, arith}
use Rattle.std.specs.Prelude.{◌⊎◌, ℤ, ◌+ℤ◌, ◌-ℤ◌, ◌*ℤ◌, map}
use Rattle.std.specs.List.{flat_map}
use Rattle.std.proofs.lemmas.Int.{ints}
use Rattle.f3_desc.specs.declared.descriptor.Dim.{Dim}
use Rattle.f3_desc.specs.Descriptor.{progression, choices, distance}
use Rattle.f3_desc.proofs.Congruences.{mul-add}

-- the place of the element with these subscripts, from a place on
abbrev pub from : ℤ → List Dim → List ℤ → ℤ
from at ds ss = at +ℤ distance ds ss

-- the places of all chosen elements
abbrev pub spots : ℤ → List Dim → List (List ℤ) → List ℤ
spots at ds xss = map (from at ds) (choices xss)

map-append' : {X Y : Type 0} (f : X → Y) (xs ys : List X) → map f (xs ++ ys) ≡ map f xs ++ map f ys
map-append' f [] ys = refl
map-append' f (x ∷ xs) ys = ap (λ zs. f x ∷ zs) (map-append' f xs ys)

line : (at : ℤ) (d : Dim) (ds : List Dim) (ss xs : List ℤ) → map (from at (d ∷ ds)) (map (λ s. s ∷ ss) xs) ≡ map (λ s. ((s -ℤ d.lower) *ℤ d.stride) +ℤ from at ds ss) xs
line at d ds ss [] = refl
line at d ds ss (x ∷ xs) =
    let first : from at (d ∷ ds) (x ∷ ss) ≡ ((x -ℤ d.lower) *ℤ d.stride) +ℤ from at ds ss = omega (arith, ints) in
    λ i. first i ∷ line at d ds ss xs i

-- the places by the places of the rest of the dimensions
pub spots-cons : (at : ℤ) (d : Dim) (ds : List Dim) (xs : List ℤ) (yss : List (List ℤ)) → map (from at (d ∷ ds)) (flat_map (λ ss. map (λ s. s ∷ ss) xs) yss) ≡ flat_map (λ p. map (λ s. ((s -ℤ d.lower) *ℤ d.stride) +ℤ p) xs) (map (from at ds) yss)
spots-cons at d ds xs [] = refl
spots-cons at d ds xs (ss ∷ yss) =
    map-append' (from at (d ∷ ds)) (map (λ s. s ∷ ss) xs) (flat_map (λ ss. map (λ s. s ∷ ss) xs) yss)
    ∙ (λ i. line at d ds ss xs i ++ spots-cons at d ds xs yss i)

-- numbers at equal distances have places at equal distances
pub spaced : (l st p y k : ℤ) (n : ℕ) → map (λ s. ((s -ℤ l) *ℤ st) +ℤ p) (progression y k n) ≡ progression (((y -ℤ l) *ℤ st) +ℤ p) (k *ℤ st) n
spaced l st p y k zero = refl
spaced l st p y k (suc n) =
    let apart : (y +ℤ k) -ℤ l ≡ (y -ℤ l) +ℤ k = omega (arith, ints) in
    let more = mul-add (y -ℤ l) k st in
    let next : (((y +ℤ k) -ℤ l) *ℤ st) +ℤ p ≡ (((y -ℤ l) *ℤ st) +ℤ p) +ℤ (k *ℤ st) = ap (λ z. (z *ℤ st) +ℤ p) apart ∙ ap (λ z. z +ℤ p) more ∙ omega (arith, ints) in
    ap (λ zs. (((y -ℤ l) *ℤ st) +ℤ p) ∷ zs) (spaced l st p (y +ℤ k) k n ∙ ap (λ z. progression z (k *ℤ st) n) next)

-- from another place on, all places are as much further
pub moved : (at x : ℤ) (ds : List Dim) (yss : List (List ℤ)) → map (from (at +ℤ x) ds) yss ≡ map (λ p. x +ℤ p) (map (from at ds) yss)
moved at x ds [] = refl
moved at x ds (ss ∷ yss) =
    let first : from (at +ℤ x) ds ss ≡ x +ℤ from at ds ss = omega (arith, ints) in
    λ i. first i ∷ moved at x ds yss i

-- a single step is not seen
pub same-progression : (p x y : ℤ) (n : ℕ) → (n ≡ 1) ⊎ (x ≡ y) → progression p x n ≡ progression p y n
same-progression p x y zero h = refl
same-progression p x y (suc zero) h = refl
same-progression p x y (suc (suc n)) h = ⊎_elim (λ e. absurd (omega arith)) (λ e. ap (λ z. progression p z (suc (suc n))) e) h
