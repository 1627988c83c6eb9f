-- Elements by their numbers, and their places up to multiples of 2 ^ 64.
use Rattle.std.proofs.Common.{◌≡◌, ◌∙◌, sym, ap, subst, refl, ℕ, zero, suc, ◌+◌, ◌*◌, ◌/◌, ◌%◌, ◌^◌, ◌<◌, List, [], ◌∷◌, ◌++◌, length, arith, length-append, w64, FitsSigned}
use Rattle.std.specs.Prelude.{Some, ℤ, pos, neg_ℤ, ◌+ℤ◌, ◌-ℤ◌, ◌*ℤ◌, ◌≤ℤ◌, ◌<ℤ◌, map, slice_get}
use Rattle.std.specs.List.{flat_map}
use Rattle.std.specs.Int.{cast_unsigned}
use Rattle.std.proofs.lemmas.Int.{ints, int_wrap_fits}
use Rattle.std.proofs.Math.Nat.{mod-add-div, mul_comm}
use Rattle.std.proofs.lemmas.Nat.{div_below, mod_below}
use Rattle.f3_desc.specs.declared.descriptor.Dim.{Dim}
use Rattle.f3_desc.specs.Inner.Congruent.{IsCongruent}
use Rattle.f3_desc.specs.Descriptor.{progression, choices, subscripts}
use Rattle.f3_desc.specs.Laws.{size_of}
use Rattle.f3_desc.proofs.Congruences.{mul-add, wrapped-bits}
use Rattle.f3_desc.proofs.Progressions.{step-more}
use Rattle.f3_desc.proofs.Spots.{spots-cons, spaced}
use Rattle.f3_room_arrays.specs.Words.{places_from}
use Rattle.f3_room_arrays.specs.Inner.Numbers.{away}

-- ---- numbers up to multiples of 2 ^ 64

pub bits-congruent : (z : ℤ) → FitsSigned w64 z → IsCongruent (pos (cast_unsigned w64 z)) z
bits-congruent z fits = subst (λ (y : ℤ). IsCongruent (pos (cast_unsigned w64 y)) z) (int_wrap_fits w64 z fits) (wrapped-bits z)

one-more : (a : ℕ) (z : ℤ) → pos (suc a) *ℤ z ≡ (pos a *ℤ z) +ℤ z
one-more a z =
    let e : pos (suc a) ≡ pos a +ℤ pos 1 = omega (arith, ints) in
    let one : pos 1 *ℤ z ≡ z = omega (arith, ints) in
    ap (λ (y : ℤ). y *ℤ z) e ∙ mul-add (pos a) (pos 1) z ∙ ap (λ (y : ℤ). (pos a *ℤ z) +ℤ y) one

sums-congruent : (m n : ℕ) (x z : ℤ) → IsCongruent (pos m) x → IsCongruent (pos n) z → IsCongruent (pos (n + m)) (x +ℤ z)
sums-congruent m n x z c d = record { turns = c.turns +ℤ d.turns; same = omega (arith, ints) }

whole-product : (a b : ℕ) (z : ℤ) → IsCongruent (pos b) z → IsCongruent (pos (a * b)) (pos a *ℤ z)
whole-product zero b z c = record { turns = pos 0; same = omega (arith, ints) }
whole-product (suc a) b z c =
    let e : b + a * b ≡ suc a * b = omega arith in
    subst (λ (n : ℕ). IsCongruent (pos n) (pos (suc a) *ℤ z)) e
    (subst (λ (y : ℤ). IsCongruent (pos (b + a * b)) y) (sym (one-more a z)) (sums-congruent (a * b) b (pos a *ℤ z) z (whole-product a b z c) c))

pub product-congruent : (a b : ℕ) (z : ℤ) → IsCongruent (pos b) z → IsCongruent (pos ((a * b) % 2 ^ 64)) (pos a *ℤ z)
product-congruent a b z c = rest (a * b) (pos a *ℤ z) (whole-product a b z c)
  where
    rest : (n : ℕ) (x : ℤ) → IsCongruent (pos n) x → IsCongruent (pos (n % 2 ^ 64)) x
    rest n x e = record { turns = e.turns +ℤ neg_ℤ (pos (n / 2 ^ 64)); same = omega (arith, ints) }

pub congruent-is : (n : ℕ) (z : ℤ) → IsCongruent (pos n) z → n < 2 ^ 64 → pos 0 ≤ℤ z → z <ℤ pos (2 ^ 64) → pos n ≡ z
congruent-is n z c f low high = omega (arith, ints)

-- ---- lists

pub get-left : {X : Type 0} (xs ys : List X) (n : ℕ) (x : X) → slice_get xs n ≡ Some x → slice_get (xs ++ ys) n ≡ Some x
get-left [] ys n x e = absurd cc
get-left (z ∷ xs) ys zero x e = e
get-left (z ∷ xs) ys (suc n) x e = get-left xs ys n x e

pub get-right : {X : Type 0} (xs ys : List X) (n : ℕ) (x : X) → slice_get ys n ≡ Some x → slice_get (xs ++ ys) (length xs + n) ≡ Some x
get-right [] ys n x e = ap (slice_get ys) (omega arith) ∙ e
get-right (z ∷ xs) ys n x e =
    let more : suc (length xs) + n ≡ suc (length xs + n) = omega arith in
    ap (slice_get (z ∷ (xs ++ ys))) more ∙ get-right xs ys n x e

get-flat_map : {X Y : Type 0} (f : X → List Y) (m : ℕ) (ys : List X) (i j : ℕ) (y : X) (x : Y) → ((z : X) → length (f z) ≡ m) → slice_get ys i ≡ Some y → slice_get (f y) j ≡ Some x → slice_get (flat_map f ys) (j + m * i) ≡ Some x
get-flat_map f m [] i j y x long e g = absurd cc
get-flat_map {X} f m (z ∷ ys) zero j y x long e g =
    let same : y ≡ z = cc in
    let here = subst (λ (w : X). slice_get (f w) j ≡ Some x) same g in
    let at : j + m * 0 ≡ j = omega arith in
    ap (slice_get (f z ++ flat_map f ys)) at ∙ get-left (f z) (flat_map f ys) j x here
get-flat_map f m (z ∷ ys) (suc i) j y x long e g =
    let size = long z in
    let at : j + m * suc i ≡ length (f z) + (j + m * i) = omega arith in
    ap (slice_get (f z ++ flat_map f ys)) at ∙ get-right (f z) (flat_map f ys) (j + m * i) x (get-flat_map f m ys i j y x long e g)

pub length-flat_map : {X Y : Type 0} (f : X → List Y) (m : ℕ) (ys : List X) → ((z : X) → length (f z) ≡ m) → length (flat_map f ys) ≡ m * length ys
length-flat_map f m [] long = omega arith
length-flat_map f m (y ∷ ys) long =
    let a = length-append (f y) (flat_map f ys) in
    let b = long y in
    let c = length-flat_map f m ys long in
    omega arith

pub progression-length : (f k : ℤ) (n : ℕ) → length (progression f k n) ≡ n
progression-length f k zero = refl
progression-length f k (suc n) = let e = progression-length (f +ℤ k) k n in omega arith

pub get-progression : (f k : ℤ) (n j : ℕ) → j < n → slice_get (progression f k n) j ≡ Some (f +ℤ (pos j *ℤ k))
get-progression f k zero j h = absurd (omega arith)
get-progression f k (suc n) zero h = let e : f ≡ f +ℤ (pos 0 *ℤ k) = omega (arith, ints) in ap Some e
get-progression f k (suc n) (suc j) h = get-progression (f +ℤ k) k n j (omega arith) ∙ ap Some (step-more f k j)

pub progression-append : (p w : ℤ) (n m : ℕ) → progression p w n ++ progression (p +ℤ (pos n *ℤ w)) w m ≡ progression p w (n + m)
progression-append p w zero m =
    let e : p +ℤ (pos 0 *ℤ w) ≡ p = omega (arith, ints) in
    let k : m ≡ 0 + m = omega arith in
    λ i. progression (e i) w (k i)
progression-append p w (suc n) m =
    let k : suc (n + m) ≡ suc n + m = omega arith in
    ap (λ (z : ℤ). p ∷ (progression (p +ℤ w) w n ++ progression z w m)) (sym (step-more p w n))
    ∙ ap (λ (zs : List ℤ). p ∷ zs) (progression-append (p +ℤ w) w n m) ∙ ap (progression p w) k

-- ---- places

-- along a dimension, from a place on
abbrev pub along : Dim → ℤ → List ℤ
along d p = progression p d.stride d.extent

-- the places by those of the other dimensions
pub places-cons : (at : ℤ) (d : Dim) (ds : List Dim) → places_from at (d ∷ ds) ≡ flat_map (along d) (places_from at ds)
places-cons at d ds =
    let row : (p : ℤ) → map (λ (s : ℤ). ((s -ℤ d.lower) *ℤ d.stride) +ℤ p) (subscripts d) ≡ along d p = λ p.
    spaced d.lower d.stride p d.lower (pos 1) d.extent
    ∙ (let none : d.lower -ℤ d.lower ≡ pos 0 = omega (arith, ints) in
    let a : (pos 0 *ℤ d.stride) +ℤ p ≡ p = omega (arith, ints) in
    let b : pos 1 *ℤ d.stride ≡ d.stride = omega (arith, ints) in
    λ i. progression ((ap (λ (z : ℤ). (z *ℤ d.stride) +ℤ p) none ∙ a) i) (b i) d.extent) in
    spots-cons at d ds (subscripts d) (choices (map subscripts ds))
    ∙ (λ i. flat_map (λ p. row p i) (places_from at ds))

pub places-many : (at : ℤ) (ds : List Dim) → length (places_from at ds) ≡ size_of ds
places-many at [] = refl
places-many at (d ∷ ds) =
    ap length (places-cons at d ds) ∙ length-flat_map (along d) d.extent (places_from at ds) (λ p. progression-length p d.stride d.extent)
    ∙ ap (λ (n : ℕ). d.extent * n) (places-many at ds)

-- the place of the element of a number
pub place-number : (at : ℤ) (ds : List Dim) (k : ℕ) → k < size_of ds → slice_get (places_from at ds) k ≡ Some (at +ℤ away ds k)
place-number at [] zero lt = refl
place-number at [] (suc k) lt = absurd (omega arith)
place-number at (d ∷ ds) k lt =
    let some : 0 < d.extent = positive d.extent (size_of ds) k lt in
    let i : ℕ = k / d.extent in
    let j : ℕ = k % d.extent in
    let size : d.extent * size_of ds ≡ size_of ds * d.extent = mul_comm d.extent (size_of ds) in
    let below : i < size_of ds = div_below k d.extent (size_of ds) some (subst (λ (n : ℕ). k < n) size lt) in
    let first : j < d.extent = mod_below k d.extent some in
    let y : ℤ = at +ℤ away ds i in
    let found = get-flat_map (along d) d.extent (places_from at ds) i j y (y +ℤ (pos j *ℤ d.stride)) (λ p. progression-length p d.stride d.extent)
    (place-number at ds i below) (get-progression y d.stride d.extent j first) in
    let same : (at +ℤ away ds i) +ℤ (pos j *ℤ d.stride) ≡ at +ℤ ((pos j *ℤ d.stride) +ℤ away ds i) = swapped at (away ds i) (pos j *ℤ d.stride) in
    ap (λ (zs : List ℤ). slice_get zs k) (places-cons at d ds) ∙ ap (slice_get (flat_map (along d) (places_from at ds))) (sym (mod-add-div k d.extent)) ∙ found ∙ ap Some same
  where
    swapped : (x y z : ℤ) → (x +ℤ y) +ℤ z ≡ x +ℤ (z +ℤ y)
    swapped x y z = omega (arith, ints)

    positive : (e n k : ℕ) → k < e * n → 0 < e
    positive zero n k lt = absurd (omega arith)
    positive (suc e) n k lt = omega arith

-- ---- the element of a number, dimension by dimension

pub away-none : (ds : List Dim) (at k : ℕ) → length ds ≡ 0 → IsCongruent (pos at) (pos at +ℤ away ds k)
away-none [] at k e = record { turns = pos 0; same = omega (arith, ints) }
away-none (d ∷ ds) at k e = absurd (omega arith)

pub away-more : (all ds : List Dim) (d : Dim) (at next end k : ℕ) → all ≡ d ∷ ds → IsCongruent (pos next) (pos at +ℤ (pos (k % d.extent) *ℤ d.stride))
    → IsCongruent (pos end) (pos next +ℤ away ds (k / d.extent)) → IsCongruent (pos end) (pos at +ℤ away all k)
away-more all ds d at next end k e first rest =
    subst (λ (x : List Dim). IsCongruent (pos end) (pos at +ℤ away x k)) (sym e) (joined (pos at) (pos next) (pos end) (pos (k % d.extent) *ℤ d.stride) (away ds (k / d.extent)) first rest)
  where
    joined : (a n e x y : ℤ) → IsCongruent n (a +ℤ x) → IsCongruent e (n +ℤ y) → IsCongruent e (a +ℤ (x +ℤ y))
    joined a n e x y c d = record { turns = c.turns +ℤ d.turns; same = omega (arith, ints) }
