-- What triplets select of an array (ISO/IEC 1539-1:2004, 6.2.2.3).
use Rattle.std.specs.Prelude.{◌≡◌, ℕ, ℤ, pos, negsuc, ◌+ℤ◌, ◌-ℤ◌, List, [], ◌∷◌, map, All, int_div}
use Rattle.std.specs.List.{AllZip}
use Rattle.f3_desc.specs.declared.descriptor.Descriptor.{Descriptor}
use Rattle.f3_desc.specs.declared.descriptor.Triplet.{Triplet}
use Rattle.f3_desc.specs.declared.descriptor.Triplet.TheVariants.{At, Range}
use Rattle.f3_desc.specs.Descriptor.{IsWithin, progression, choices, place, places, HasPlaces}

-- the number, or 0 for one below 0
abbrev pub at_least_zero : ℤ → ℕ
at_least_zero (pos n) = n
at_least_zero (negsuc n) = 0

-- how many subscripts from:to:step selects: (to - from + step) / step, or none
abbrev pub count : ℤ → ℤ → ℤ → ℕ
count from to step = at_least_zero (int_div ((to -ℤ from) +ℤ step) step)

-- the subscripts that are selected, in order
abbrev pub selected : Triplet → List ℤ
selected (At s) = s ∷ []
selected (Range from to step) = progression from step (count from to step)

-- the step is zero
abbrev pub IsStepZero : Triplet → Type 0
IsStepZero (At s) = ⊥
IsStepZero (Range from to step) = step ≡ pos 0

-- there is one triplet for each dimension, and each subscript that it selects is within bounds
abbrev pub SelectsWithin : Descriptor → List Triplet → Type 0
SelectsWithin a ts = AllZip (λ d t. All (IsWithin d) (selected t)) a.dims.items ts

-- how many subscripts each triplet selects; a single subscript leaves no dimension
abbrev pub extents : List Triplet → List ℕ
extents [] = []
extents (At s ∷ ts) = extents ts
extents (Range from to step ∷ ts) = count from to step ∷ extents ts

-- s stands for the section that the triplets select of a: its elements are those with the selected subscripts, in order
pub record IsSection (a : Descriptor) (ts : List Triplet) (s : Descriptor) : Type 0 where
  pub block : s.block ≡ a.block
  pub lower : All (λ d. d.lower ≡ pos 1) s.dims.items
  pub extent : map (λ d. d.extent) s.dims.items ≡ extents ts
  pub elements : places s ≡ map (place a) (choices (map selected ts))
  pub within : HasPlaces s
