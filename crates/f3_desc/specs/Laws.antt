-- Laws of arrays and their sections.
use Rattle.std.specs.Prelude.{◌≡◌, ◌≢◌, ◌↔◌, ℕ, ◌+◌, ◌*◌, ◌^◌, ◌<◌, ℤ, pos, ◌+ℤ◌, ◌-ℤ◌, ◌*ℤ◌, ◌≤ℤ◌, ◌<ℤ◌, List, [], ◌∷◌, Some, slice_get, unsigned_abs}
use Rattle.f3_desc.specs.declared.descriptor.Descriptor.{Descriptor}
use Rattle.f3_desc.specs.declared.descriptor.Dim.{Dim}
use Rattle.f3_desc.specs.declared.descriptor.Triplet.{Triplet}
use Rattle.f3_desc.specs.Descriptor.{HasElement, HasPlaces, place, places, progression}
use Rattle.f3_desc.specs.Section.{IsSection, SelectsWithin, count}

-- s is not past to, in the direction of the step
abbrev pub IsUpTo : ℤ → ℤ → ℤ → Type 0
IsUpTo step to s = (pos 0 <ℤ step → s ≤ℤ to) × (step <ℤ pos 0 → to ≤ℤ s)

-- from + j step is selected by from:to:step exactly where it is not past to (ISO/IEC 1539-1:2004, 6.2.2.3.1)
abbrev pub CountsSteps : Type 0
CountsSteps = (from to step : ℤ) → step ≢ pos 0 → (j : ℕ) → (j < count from to step) ↔ IsUpTo step to (from +ℤ (pos j *ℤ step))

-- how many elements the dimensions have together
abbrev pub size_of : List Dim → ℕ
size_of [] = 1
size_of (d ∷ ds) = d.extent * size_of ds

-- the number of an element in array element order, from 0: (s1 - l1) + (s2 - l2) n1 + (s3 - l3) n1 n2 .. (6.2.2.2, table 6.1)
abbrev pub number : List Dim → List ℤ → ℕ
number (d ∷ ds) (s ∷ ss) = unsigned_abs (s -ℤ d.lower) + d.extent * number ds ss
number _ _ = 0

-- the places stand in array element order
abbrev pub PlacesAreOrdered : Type 0
PlacesAreOrdered = (a : Descriptor) (ss : List ℤ) → HasElement a ss → slice_get (places a) (number a.dims.items ss) ≡ Some (place a ss)

-- elements of so many words follow on one another
abbrev pub IsContiguous : ℤ → List Dim → Type 0
IsContiguous words [] = Unit {0}
IsContiguous words (d ∷ ds) = (d.stride ≡ words) × IsContiguous (pos d.extent *ℤ words) ds

-- the elements of a contiguous array lie at its offset, and so many words on for each
abbrev pub ContiguousArrays : Type 0
ContiguousArrays = (a : Descriptor) (words : ℤ) → IsContiguous words a.dims.items → places a ≡ progression (pos a.offset) words (size_of a.dims.items)

-- where the words of a contiguous array end below 2 ^ 63, each element has a place
abbrev pub ContiguousArraysFit : Type 0
ContiguousArraysFit = (a : Descriptor) (words : ℕ) → IsContiguous (pos words) a.dims.items → a.offset + size_of a.dims.items * words < 2 ^ 63 → HasPlaces a

-- each element of a section is one of the whole
abbrev pub SectionsLieWithin : Type 0
SectionsLieWithin = (a s : Descriptor) (ts : List Triplet) → SelectsWithin a ts → IsSection a ts s
    → (ss : List ℤ) → HasElement s ss → (rs : List ℤ) × (HasElement a rs × (place s ss ≡ place a rs))
