-- Triplets for what is chosen in each dimension.
use Rattle.std.proofs.Common.{◌≡◌, ap, refl, List, [], ◌∷◌, length, arith}
use Rattle.f3_cells.specs.declared.cell.Chosen as d
use Rattle.f3_cells.specs.Cells.{chosen_of}
use Rattle.std.specs.Prelude.{map, ℤ, All, Bool, true, false, nat_eq, nat_abs, if◌then◌else◌}
use Rattle.std.proofs.lemmas.List.Elements.{All-nil, All-cons}
use Rattle.f3_meaning_whole.specs.Act.{Chosen, At, Range, some_zero_step, steps_by_zero}
use Rattle.f3_desc.specs.declared.descriptor.Dim.{Dim}
use Rattle.f3_desc.specs.Section.{IsStepZero}
use Rattle.f3_word_areas.specs.Sections.{triplet_of, triplets_of}

pub triplets-many : (ds : List Dim) (cs : List Chosen) → length cs ≡ length ds → length (triplets_of ds cs) ≡ length ds
triplets-many [] [] e = refl
triplets-many [] (c ∷ cs) e = absurd (omega arith)
triplets-many (d ∷ ds) [] e = absurd (omega arith)
triplets-many (d ∷ ds) (c ∷ cs) e = let r = triplets-many ds cs (omega arith) in omega arith

pub triplets-none : (ds : List Dim) → triplets_of ds [] ≡ []
triplets-none [] = refl
triplets-none (d ∷ ds) = refl

split : (b r : Bool) → (if b then true else r) ≡ false → (b ≡ false) × (r ≡ false)
split true r e = absurd cc
split false r e = (refl, e)

some-step : (d : Dim) (c : Chosen) → steps_by_zero c ≡ false → ¬ (IsStepZero (triplet_of d c))
some-step d (At z) e = λ h. h
some-step d (Range lower upper step) e = λ h. let is : nat_eq (nat_abs step) 0 ≡ true = ap (λ (z : ℤ). nat_eq (nat_abs z) 0) h in cc

pub some-steps : (ds : List Dim) (cs : List Chosen) → some_zero_step cs ≡ false → All (λ t. ¬ (IsStepZero t)) (triplets_of ds cs)
some-steps [] cs e = All-nil (λ t. ¬ (IsStepZero t))
some-steps (d ∷ ds) [] e = All-nil (λ t. ¬ (IsStepZero t))
some-steps (d ∷ ds) (c ∷ cs) e =
    let both = split (steps_by_zero c) (some_zero_step cs) e in
    All-cons (λ t. ¬ (IsStepZero t)) (triplet_of d c) (triplets_of ds cs) (some-step d c both.0) (some-steps ds cs both.1)

pub none-chosen : (ds : List Dim) (cs : List d.Chosen) → length cs ≡ 0 → length (triplets_of ds (map chosen_of cs)) ≡ 0
none-chosen ds [] e = ap length (triplets-none ds)
none-chosen ds (c ∷ cs) e = absurd (omega arith)

pub mapped-length : {X Y : Type 0} (f : X → Y) (xs : List X) → length (map f xs) ≡ length xs
mapped-length f [] = refl
mapped-length f (x ∷ xs) = let e = mapped-length f xs in omega arith
