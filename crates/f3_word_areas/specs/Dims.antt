-- Dimensions of arrays in words.
use Rattle.std.specs.Prelude.{◌≡◌, ◌⊎◌, ℕ, pos, List, map}
use Rattle.f3_desc.specs.declared.descriptor.Dim.{Dim}
use Rattle.f3_desc.specs.Laws.{IsContiguous, size_of}

-- elements of so many words follow on one another, or there is none
abbrev pub AreApart : ℕ → List Dim → Type 0
AreApart words ds = (size_of ds ≡ 0) ⊎ IsContiguous (pos words) ds

-- the same elements, with bounds from 1 on
abbrev pub dims_from_one : List Dim → List Dim
dims_from_one ds = map (λ (d : Dim). record { lower = pos 1; extent = d.extent; stride = d.stride }) ds
