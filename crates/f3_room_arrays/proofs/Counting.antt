-- How many elements there are.
use Rattle.std.proofs.Common.{◌≡◌, ◌≢◌, ◌∙◌, ap, refl, ℕ, zero, suc, ◌*◌, ◌<◌, ◌≤◌, List, [], ◌∷◌, length, arith}
use Rattle.std.specs.Prelude.{ℤ, pos, ◌+ℤ◌, ◌*ℤ◌, ◌≤ℤ◌, ◌<ℤ◌, map, unsigned_abs}
use Rattle.std.specs.List.{All, AllZip}
use Rattle.std.proofs.lemmas.Int.{ints, unsigned_abs-mul}
use Rattle.std.proofs.Math.Nat.{mul-le-mul_right, mul-le-mul_left}
use Rattle.f3_desc.specs.declared.descriptor.Dim.{Dim}
use Rattle.f3_desc.specs.declared.descriptor.Triplet.{Triplet}
use Rattle.f3_desc.specs.declared.descriptor.Triplet.TheVariants.{At, Range}
use Rattle.f3_desc.specs.Descriptor.{IsWithin, choices, place, progression}
use Rattle.f3_desc.specs.Section.{IsStepZero, selected, count}
use Rattle.f3_desc.specs.Laws.{size_of}
use Rattle.f3_desc.proofs.Progressions.{within-last}
use Rattle.f3_room_arrays.specs.Laws.{ElementsAreCounted, SectionsAreNoLonger}
use Rattle.f3_room_arrays.proofs.Numbers.{places-many, length-flat_map, progression-length}
use Rattle.f3_room_arrays.proofs.Placing.{all-first, all-rest}

mapped-length : {X Y : Type 0} (f : X → Y) (xs : List X) → length (map f xs) ≡ length xs
mapped-length f [] = refl
mapped-length f (x ∷ xs) = let e = mapped-length f xs in omega arith

pub elements_are_counted : ElementsAreCounted
elements_are_counted a = places-many (pos a.offset) a.dims.items

-- so many numbers, all of them within so many, at equal distances
few-within : (d : Dim) (from step : ℤ) (n : ℕ) → step ≢ pos 0 → All (IsWithin d) (progression from step n) → n ≤ d.extent
few-within d from step zero ne all = omega arith
few-within d from step (suc m) ne all =
    let first = all-first (IsWithin d) from (progression (from +ℤ step) step m) all in
    let last = within-last d from step m all in
    let each = unsigned_abs-mul (pos m) step in
    let far : unsigned_abs (pos m *ℤ step) < d.extent = apart d.lower from (pos m *ℤ step) d.extent first.0 first.1 last.0 last.1 in
    let some : 1 ≤ unsigned_abs step = nonzero step ne in
    let more : m * 1 ≤ m * unsigned_abs step = mul-le-mul_left m some in
    omega arith
  where
    apart : (l f x : ℤ) (e : ℕ) → l ≤ℤ f → f <ℤ (l +ℤ pos e) → l ≤ℤ (f +ℤ x) → (f +ℤ x) <ℤ (l +ℤ pos e) → unsigned_abs x < e
    apart l f x e a b c d = omega (arith, ints)

    nonzero : (x : ℤ) → x ≢ pos 0 → 1 ≤ unsigned_abs x
    nonzero x n = omega (arith, ints)

few-selected : (d : Dim) (c : Triplet) → ¬ (IsStepZero c) → All (IsWithin d) (selected c) → length (selected c) ≤ d.extent
few-selected d (At s) ne all = let one = all-first (IsWithin d) s [] all in within d.lower s d.extent one.0 one.1
  where
    within : (l s : ℤ) (e : ℕ) → l ≤ℤ s → s <ℤ (l +ℤ pos e) → 1 ≤ e
    within l s e a b = omega (arith, ints)
few-selected d (Range from to step) ne all =
    let few = few-within d from step (count from to step) ne all in
    let many = progression-length from step (count from to step) in
    omega arith

choices-many : (xs : List ℤ) (xss : List (List ℤ)) → length (choices (xs ∷ xss)) ≡ length xs * length (choices xss)
choices-many xs xss = length-flat_map (λ (ss : List ℤ). map (λ (s : ℤ). s ∷ ss) xs) (length xs) (choices xss) (λ ss. mapped-length (λ (s : ℤ). s ∷ ss) xs)

few-chosen : (ds : List Dim) (cs : List Triplet) → All (λ c. ¬ (IsStepZero c)) cs → AllZip (λ d c. All (IsWithin d) (selected c)) ds cs → length (choices (map selected cs)) ≤ size_of ds
few-chosen [] [] ne within = omega arith
few-chosen [] (c ∷ cs) ne within = absurd within
few-chosen (d ∷ ds) [] ne within = absurd within
few-chosen (d ∷ ds) (c ∷ cs) ne within =
    let here = few-selected d c (all-first (λ c. ¬ (IsStepZero c)) c cs ne) within.0 in
    let rest = few-chosen ds cs (all-rest (λ c. ¬ (IsStepZero c)) c cs ne) within.1 in
    let many = choices-many (selected c) (map selected cs) in
    let a : length (selected c) * length (choices (map selected cs)) ≤ d.extent * length (choices (map selected cs)) = mul-le-mul_right (length (choices (map selected cs))) here in
    let b : d.extent * length (choices (map selected cs)) ≤ d.extent * size_of ds = mul-le-mul_left d.extent rest in
    omega arith

pub sections_are_no_longer : SectionsAreNoLonger
sections_are_no_longer a b cs ne within section =
    let few = few-chosen a.dims.items cs ne within in
    let all = elements_are_counted a in
    let some = ap length section.elements ∙ mapped-length (place a) (choices (map selected cs)) in
    omega arith
