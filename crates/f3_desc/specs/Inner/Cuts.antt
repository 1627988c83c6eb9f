-- What a section computes of one dimension.
use Rattle.std.specs.Prelude.{◌≡◌, ℕ, ◌+◌, ℤ, pos, ◌+ℤ◌, ◌*ℤ◌, List, [], ◌∷◌}
use Rattle.std.specs.Int.{int_wrap, w64}
use Rattle.f3_desc.specs.declared.descriptor.Dim.{Dim}
use Rattle.f3_desc.specs.declared.descriptor.Triplet.{Triplet}
use Rattle.f3_desc.specs.declared.descriptor.Triplet.TheVariants.{At, Range}
use Rattle.f3_desc.specs.Section.{count}

-- last is the last of the subscripts that from:to:step selects
pub record EndsAt (from to step last : ℤ) : Type 0 where
  pub steps : ℕ
  pub many : count from to step ≡ steps + 1
  pub last_is : last ≡ from +ℤ (pos steps *ℤ step)

-- the number that a selection begins with
abbrev pub first_of : Triplet → ℤ
first_of (At s) = s
first_of (Range from to step) = from

-- the dimension that a triplet leaves, if it is no single subscript; its stride in 64 bits
abbrev pub cut_of : Dim → Triplet → List Dim
cut_of d (At s) = []
cut_of d (Range from to step) = (record { lower = pos 1; extent = count from to step; stride = int_wrap w64 (d.stride *ℤ step) }) ∷ []
