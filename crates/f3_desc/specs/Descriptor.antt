-- The elements that a descriptor of an array stands for, and their places (ISO/IEC 1539-1:2004, 5.1.2.5 and 6.2.2.2; places are an own rule).
use Rattle.std.specs.Prelude.{ℕ, zero, suc, ◌^◌, ℤ, pos, ◌+ℤ◌, ◌-ℤ◌, ◌*ℤ◌, ◌≤ℤ◌, ◌<ℤ◌, List, [], ◌∷◌, map}
use Rattle.std.specs.List.{AllZip, flat_map}
use Rattle.f3_desc.specs.declared.descriptor.Descriptor.{Descriptor}
use Rattle.f3_desc.specs.declared.descriptor.Dim.{Dim}

-- so many numbers: first, first + step, first + 2 step, ..
abbrev pub progression : ℤ → ℤ → ℕ → List ℤ
progression first step zero = []
progression first step (suc n) = first ∷ progression (first +ℤ step) step n

-- one number of each list, in every way, those of the first list varying fastest: array element order
abbrev pub choices : List (List ℤ) → List (List ℤ)
choices [] = [] ∷ []
choices (xs ∷ xss) = flat_map (λ ss. map (λ s. s ∷ ss) xs) (choices xss)

-- the subscripts of a dimension, in order
abbrev pub subscripts : Dim → List ℤ
subscripts d = progression d.lower (pos 1) d.extent

-- the subscript is within the bounds of the dimension
abbrev pub IsWithin : Dim → ℤ → Type 0
IsWithin d s = (d.lower ≤ℤ s) × (s <ℤ (d.lower +ℤ pos d.extent))

-- how far the element with these subscripts lies behind the one with all lower bounds
abbrev pub distance : List Dim → List ℤ → ℤ
distance (d ∷ ds) (s ∷ ss) = ((s -ℤ d.lower) *ℤ d.stride) +ℤ distance ds ss
distance _ _ = pos 0

-- there is one subscript for each dimension, and each is within bounds
abbrev pub HasElement : Descriptor → List ℤ → Type 0
HasElement a ss = AllZip IsWithin a.dims.items ss

-- the place of the element with these subscripts
abbrev pub place : Descriptor → List ℤ → ℤ
place a ss = pos a.offset +ℤ distance a.dims.items ss

-- the place of each element is one of a block
abbrev pub HasPlaces : Descriptor → Type 0
HasPlaces a = (ss : List ℤ) → HasElement a ss → (pos 0 ≤ℤ place a ss) × (place a ss <ℤ pos (2 ^ 63))

-- the places of the elements, in array element order
abbrev pub places : Descriptor → List ℤ
places a = map (place a) (choices (map subscripts a.dims.items))
