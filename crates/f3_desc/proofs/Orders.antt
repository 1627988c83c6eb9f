-- Places in array element order, and those of contiguous arrays.
use Rattle.std.proofs.Common.{◌≡◌, ◌∙◌, sym, ap, subst, refl, ⊎_elim, ◌^◌, ℕ, zero, suc, ◌+◌, ◌*◌, ◌<◌, ◌≤◌, List, [], ◌∷◌, ◌++◌, length, Some, arith}
use Rattle.std.specs.Prelude.{ℤ, pos, ◌+ℤ◌, ◌-ℤ◌, ◌*ℤ◌, map, slice_get, unsigned_abs}
use Rattle.std.specs.List.{AllZip, flat_map}
use Rattle.std.specs.Option.{option_map}
use Rattle.std.proofs.lemmas.Int.{ints}
use Rattle.f3_desc.specs.declared.descriptor.Descriptor.{Descriptor}
use Rattle.f3_desc.specs.declared.descriptor.Dim.{Dim}
use Rattle.f3_desc.specs.Descriptor.{HasElement, HasPlaces, IsWithin, progression, choices, subscripts, place, places}
use Rattle.f3_desc.specs.Laws.{IsContiguous, number, size_of}
use Rattle.f3_desc.proofs.Progressions.{step-more}
use Rattle.std.proofs.Math.Nat.{mul-le-mul_right}
use Rattle.f3_desc.proofs.Members.{In, in-map, in-choices}
use Rattle.f3_desc.proofs.Sections.{dims-in}
use Rattle.f3_desc.proofs.Spots.{spots, spots-cons, spaced}

get-left : {X : Type 0} (xs ys : List X) (n : ℕ) (x : X) → slice_get xs n ≡ Some x → slice_get (xs ++ ys) n ≡ Some x
get-left [] ys n x e = absurd cc
get-left (z ∷ xs) ys zero x e = e
get-left (z ∷ xs) ys (suc n) x e = get-left xs ys n x e

get-right : {X : Type 0} (xs ys : List X) (n : ℕ) (x : X) → slice_get ys n ≡ Some x → slice_get (xs ++ ys) (length xs + n) ≡ Some x
get-right [] ys n x e = ap (slice_get ys) (omega arith) ∙ e
get-right (z ∷ xs) ys n x e =
    let more : suc (length xs) + n ≡ suc (length xs + n) = omega arith in
    ap (slice_get (z ∷ (xs ++ ys))) more ∙ get-right xs ys n x e

get-map : {X Y : Type 0} (f : X → Y) (xs : List X) (n : ℕ) (x : X) → slice_get xs n ≡ Some x → slice_get (map f xs) n ≡ Some (f x)
get-map f [] n x e = absurd cc
get-map f (z ∷ xs) zero x e = ap (option_map f) e
get-map f (z ∷ xs) (suc n) x e = get-map f xs n x e

get-flat_map : {X Y : Type 0} (f : X → List Y) (m : ℕ) (ys : List X) (i j : ℕ) (y : X) (x : Y) → ((z : X) → length (f z) ≡ m) → slice_get ys i ≡ Some y → slice_get (f y) j ≡ Some x → slice_get (flat_map f ys) (j + m * i) ≡ Some x
get-flat_map f m [] i j y x long e g = absurd cc
get-flat_map {X} f m (z ∷ ys) zero j y x long e g =
    let same : y ≡ z = cc in
    let here = subst (λ (w : X). slice_get (f w) j ≡ Some x) same g in
    let at : j + m * 0 ≡ j = omega arith in
    ap (slice_get (f z ++ flat_map f ys)) at ∙ get-left (f z) (flat_map f ys) j x here
get-flat_map f m (z ∷ ys) (suc i) j y x long e g =
    let size = long z in
    let at : j + m * suc i ≡ length (f z) + (j + m * i) = omega arith in
    ap (slice_get (f z ++ flat_map f ys)) at ∙ get-right (f z) (flat_map f ys) (j + m * i) x (get-flat_map f m ys i j y x long e g)

progression-length : (f k : ℤ) (n : ℕ) → length (progression f k n) ≡ n
progression-length f k zero = refl
progression-length f k (suc n) = let e = progression-length (f +ℤ k) k n in omega arith

length-map' : {X Y : Type 0} (f : X → Y) (xs : List X) → length (map f xs) ≡ length xs
length-map' f [] = refl
length-map' f (x ∷ xs) = let e = length-map' f xs in omega arith

get-progression : (f k : ℤ) (n j : ℕ) → j < n → slice_get (progression f k n) j ≡ Some (f +ℤ (pos j *ℤ k))
get-progression f k zero j h = absurd (omega arith)
get-progression f k (suc n) zero h = let e : f ≡ f +ℤ (pos 0 *ℤ k) = omega (arith, ints) in ap Some e
get-progression f k (suc n) (suc j) h = get-progression (f +ℤ k) k n j (omega arith) ∙ ap Some (step-more f k j)

get-subscripts : (d : Dim) (s : ℤ) → IsWithin d s → slice_get (subscripts d) (unsigned_abs (s -ℤ d.lower)) ≡ Some s
get-subscripts d s h =
    let low = h.0 in
    let high = h.1 in
    let back : d.lower +ℤ (pos (unsigned_abs (s -ℤ d.lower)) *ℤ pos 1) ≡ s = omega (arith, ints) in
    get-progression d.lower (pos 1) d.extent (unsigned_abs (s -ℤ d.lower)) (omega (arith, ints)) ∙ ap Some back

get-choices : (ds : List Dim) (ss : List ℤ) → AllZip IsWithin ds ss → slice_get (choices (map subscripts ds)) (number ds ss) ≡ Some ss
get-choices [] [] h = refl
get-choices [] (s ∷ ss) h = absurd h
get-choices (d ∷ ds) [] h = absurd h
get-choices (d ∷ ds) (s ∷ ss) h =
    get-flat_map (λ (rest : List ℤ). map (λ (x : ℤ). x ∷ rest) (subscripts d)) d.extent (choices (map subscripts ds)) (number ds ss) (unsigned_abs (s -ℤ d.lower)) ss (s ∷ ss)
    (λ rest. length-map' (λ (x : ℤ). x ∷ rest) (subscripts d) ∙ progression-length d.lower (pos 1) d.extent)
    (get-choices ds ss h.1) (get-map (λ (x : ℤ). x ∷ ss) (subscripts d) (unsigned_abs (s -ℤ d.lower)) s (get-subscripts d s h.0))

pub ordered : (a : Descriptor) (ss : List ℤ) → HasElement a ss → slice_get (places a) (number a.dims.items ss) ≡ Some (place a ss)
ordered a ss h = get-map (place a) (choices (map subscripts a.dims.items)) (number a.dims.items ss) ss (get-choices a.dims.items ss h)

progression-append : (p w : ℤ) (n m : ℕ) → progression p w n ++ progression (p +ℤ (pos n *ℤ w)) w m ≡ progression p w (n + m)
progression-append p w zero m =
    let e : p +ℤ (pos 0 *ℤ w) ≡ p = omega (arith, ints) in
    let k : m ≡ 0 + m = omega arith in
    λ i. progression (e i) w (k i)
progression-append p w (suc n) m =
    let k : suc (n + m) ≡ suc n + m = omega arith in
    ap (λ (z : ℤ). p ∷ (progression (p +ℤ w) w n ++ progression z w m)) (sym (step-more p w n))
    ∙ ap (λ (zs : List ℤ). p ∷ zs) (progression-append (p +ℤ w) w n m) ∙ ap (progression p w) k

rows : (at w : ℤ) (n m : ℕ) → flat_map (λ (p : ℤ). progression p w n) (progression at (pos n *ℤ w) m) ≡ progression at w (n * m)
rows at w n zero = let e : 0 ≡ n * 0 = omega arith in ap (progression at w) e
rows at w n (suc m) =
    let e : n + n * m ≡ n * suc m = omega arith in
    ap (λ (zs : List ℤ). progression at w n ++ zs) (rows (at +ℤ (pos n *ℤ w)) w n m) ∙ progression-append at w n (n * m) ∙ ap (progression at w) e

contiguous-spots : (at w : ℤ) (ds : List Dim) → IsContiguous w ds → spots at ds (map subscripts ds) ≡ progression at w (size_of ds)
contiguous-spots at w [] h = let e : at +ℤ pos 0 ≡ at = omega (arith, ints) in ap (λ (z : ℤ). z ∷ []) e
contiguous-spots at w (d ∷ ds) h =
    let row : (p : ℤ) → map (λ (s : ℤ). ((s -ℤ d.lower) *ℤ d.stride) +ℤ p) (subscripts d) ≡ progression p w d.extent = λ p.
    spaced d.lower d.stride p d.lower (pos 1) d.extent
    ∙ (let none : d.lower -ℤ d.lower ≡ pos 0 = omega (arith, ints) in
    let a : (pos 0 *ℤ d.stride) +ℤ p ≡ p = omega (arith, ints) in
    let b : pos 1 *ℤ d.stride ≡ w = omega (arith, ints, h.0) in
    λ i. progression ((ap (λ (z : ℤ). (z *ℤ d.stride) +ℤ p) none ∙ a) i) (b i) d.extent) in
    spots-cons at d ds (subscripts d) (choices (map subscripts ds))
    ∙ (λ i. flat_map (λ p. row p i) (contiguous-spots at (pos d.extent *ℤ w) ds h.1 i))
    ∙ rows at w d.extent (size_of ds)

pub contiguous : (a : Descriptor) (w : ℤ) → IsContiguous w a.dims.items → places a ≡ progression (pos a.offset) w (size_of a.dims.items)
contiguous a w h = contiguous-spots (pos a.offset) w a.dims.items h

from-progression : (f k z : ℤ) (n : ℕ) → In z (progression f k n) → (j : ℕ) × ((j < n) × (z ≡ f +ℤ (pos j *ℤ k)))
from-progression f k z zero m = absurd m
from-progression f k z (suc n) m = ⊎_elim
    (λ e. (0, (omega arith, (let same : f ≡ f +ℤ (pos 0 *ℤ k) = omega (arith, ints) in e ∙ same))))
    (λ l. let r = from-progression (f +ℤ k) k z n l in (suc r.0, (omega (arith, r.1.0), r.1.1 ∙ step-more f k r.0))) m

pub contiguous-fits : (a : Descriptor) (w : ℕ) → IsContiguous (pos w) a.dims.items → a.offset + size_of a.dims.items * w < 2 ^ 63 → HasPlaces a
contiguous-fits a w c room ss h =
    let there = in-map (place a) ss (choices (map subscripts a.dims.items)) (in-choices (map subscripts a.dims.items) ss (dims-in a.dims.items ss h)) in
    let r = from-progression (pos a.offset) (pos w) (place a ss) (size_of a.dims.items) (subst (λ (zs : List ℤ). In (place a ss) zs) (contiguous a (pos w) c) there) in
    let is : place a ss ≡ pos (a.offset + r.0 * w) = r.1.1 in
    let below : r.0 * w ≤ size_of a.dims.items * w = mul-le-mul_right w (omega (arith, r.1.0)) in
    (omega (arith, ints), omega (arith, ints))
