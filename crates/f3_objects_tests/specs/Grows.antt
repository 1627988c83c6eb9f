-- Objects that got more blocks.
use Rattle.std.proofs.Common.{zero, suc}
use Rattle.std.specs.Prelude.{ℕ, ℤ, pos, ◌≤◌, List, [], ◌∷◌}
use Rattle.f3_live_blocks.specs.Blocks.{Live}
use Rattle.f3_desc.specs.Shape.{Shape}
use Rattle.f3_objects.specs.Tree.{Tree, times, Fits}
use Rattle.f3_objects.specs.Holds.{Replaces}

-- the bounds from 1 to n, for one dimension at most
abbrev pub dims_of : ℕ → ℕ → List ℤ
dims_of zero n = []
dims_of (suc r) n = pos 1 ∷ pos n ∷ []

-- an object of the same shape took its place, with new blocks
pub record Grows (old new : Live) (block at : ℕ) (s : Shape) (t : Tree) : Type 0 where
  pub grown : Tree
  pub fits : Fits s grown
  pub once : (q : ℕ) → times q grown ≤ 1
  pub replaced : Replaces old new block at t grown
