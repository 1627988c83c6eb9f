-- Lower bounds of dummies and of associate names.
use Rattle.std.specs.Prelude.{ℤ, pos, nat_eq, if◌then◌else◌, List, [], ◌∷◌}
use Rattle.f3_desc.specs.declared.descriptor.Dim.{Dim}

-- the first dimensions have these (ISO/IEC 1539-1:2004, 5.1.2.5.2)
abbrev pub based_dims : List ℤ → List Dim → List Dim
based_dims (l ∷ ls) (d ∷ ds) = record { lower = l; extent = d.extent; stride = d.stride } ∷ based_dims ls ds
based_dims ls ds = ds

-- those that LBOUND tells (13.7.60)
abbrev pub shown_dims : List Dim → List Dim
shown_dims [] = []
shown_dims (d ∷ ds) = record { lower = if nat_eq d.extent 0 then pos 1 else d.lower; extent = d.extent; stride = d.stride } ∷ shown_dims ds
