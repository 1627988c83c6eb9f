-- Elements by their numbers.
use Rattle.std.specs.Prelude.{ℕ, ◌/◌, ◌%◌, ℤ, pos, ◌+ℤ◌, ◌*ℤ◌, List, [], ◌∷◌}
use Rattle.f3_desc.specs.declared.descriptor.Dim.{Dim}

-- how far the element of a number, in array element order, lies behind the first
abbrev pub away : List Dim → ℕ → ℤ
away [] k = pos 0
away (d ∷ ds) k = (pos (k % d.extent) *ℤ d.stride) +ℤ away ds (k / d.extent)
