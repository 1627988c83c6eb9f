-- Dimensions of values, with their elements one behind another.
use Rattle.std.specs.Prelude.{ℕ, ◌*◌, ◌^◌, pos, List, [], ◌∷◌, nat_eq, nat_lt, if◌then◌else◌}
use Rattle.f3_desc.specs.declared.descriptor.Dim.{Dim}

-- The lower bound is 1 where there are no subscripts (ISO/IEC 1539-1:2004, 13.7.60). A distance of 2 ^ 63 words or more is one of no elements
-- in a block, and 0 stands for it.
abbrev pub packed_dim : Dim → ℕ → Dim
packed_dim d distance = record { lower = if nat_eq d.extent 0 then pos 1 else d.lower; extent = d.extent; stride = if nat_lt distance (2 ^ 63) then pos distance else pos 0 }

abbrev pub packed_from : ℕ → List Dim → List Dim
packed_from distance [] = []
packed_from distance (d ∷ ds) = packed_dim d distance ∷ packed_from (distance * d.extent) ds
