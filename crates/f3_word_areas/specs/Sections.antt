-- What subscripts and triplets select of an array (ISO/IEC 1539-1:2004, 6.2.2.3).
use Rattle.std.specs.Prelude.{◌≡◌, ◌^◌, ℤ, pos, neg_ℤ, ◌+ℤ◌, ◌-ℤ◌, ◌≤ℤ◌, true, false, List, [], ◌∷◌, unwrap_or, Result, Ok, Err}
use Rattle.f3_meaning_whole.specs.Act.{Chosen, At, Range, some_zero_step}
use Rattle.f3_desc.specs.declared.descriptor.Descriptor.{Descriptor}
use Rattle.f3_desc.specs.declared.descriptor.Dim.{Dim}
use Rattle.f3_desc.specs.declared.descriptor.SectionFault.{SectionFault}
use Rattle.f3_desc.specs.declared.descriptor.SectionFault.TheVariants as fault
use Rattle.f3_desc.specs.declared.descriptor.Triplet.{Triplet}
use Rattle.f3_desc.specs.declared.descriptor.Triplet.TheVariants as triplet
use Rattle.f3_desc.specs.Descriptor.{HasPlaces}
use Rattle.f3_desc.specs.Section.{IsSection, SelectsWithin}

-- the last subscript of a dimension, and what is selected there: absent bounds are those of the dimension
abbrev pub last_of : Dim → ℤ
last_of d = (d.lower +ℤ pos d.extent) -ℤ pos 1

abbrev pub triplet_of : Dim → Chosen → Triplet
triplet_of d (At z) = triplet.At z
triplet_of d (Range lower upper step) = triplet.Range (unwrap_or lower d.lower) (unwrap_or upper (last_of d)) step

abbrev pub triplets_of : List Dim → List Chosen → List Triplet
triplets_of (d ∷ ds) (c ∷ cs) = triplet_of d c ∷ triplets_of ds cs
triplets_of ds cs = []

-- no farther from 0 than bounds of 64 bits lead
abbrev pub IsNear : ℤ → Type 0
IsNear z = (neg_ℤ (pos (2 ^ 67)) ≤ℤ z) × (z ≤ℤ pos (2 ^ 67))

-- The section, or why there is none: a step of zero is found before a subscript out of bounds (own rules).
abbrev pub Selected : Descriptor → List Chosen → Result Descriptor SectionFault → Type 0
Selected a cs (Ok b) = (some_zero_step cs ≡ false) × SelectsWithin a (triplets_of a.dims.items cs) × (HasPlaces a → IsSection a (triplets_of a.dims.items cs) b)
Selected a cs (Err fault.StepZero) = some_zero_step cs ≡ true
Selected a cs (Err fault.Bounds) = (some_zero_step cs ≡ false) × ¬ (SelectsWithin a (triplets_of a.dims.items cs))
