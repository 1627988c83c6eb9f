-- The blocks of a list of cells that lie one after another: each cell takes some numbers, and a block is named by its cell's first.
use Rattle.std.specs.Prelude.{ℕ, ◌+◌, List, [], ◌∷◌, Option, None, Some}
use Rattle.std.specs.FinMap.{from_sorted}
use Rattle.std.specs.Ordering.{nat_cmp}
use Rattle.f3_live_blocks.specs.Blocks.{Block, Live}

abbrev pub with_named : Option Block → ℕ → List (ℕ × Block) → List (ℕ × Block)
with_named None p es = es
with_named (Some b) p es = (p, b) ∷ es

module _ {A : Type 0} (content : A → Option Block) (size : A → ℕ) where
  -- the numbers that the cells take together
  abbrev pub extent : List A → ℕ
  extent [] = 0
  extent (x ∷ xs) = size x + extent xs

  -- the blocks with their names, where the first cell begins at p
  abbrev pub named_from : ℕ → List A → List (ℕ × Block)
  named_from p [] = []
  named_from p (x ∷ xs) = with_named (content x) p (named_from (p + size x) xs)

  unfoldable pub live_from : ℕ → List A → Live
  live_from p xs = from_sorted {R = nat_cmp} (named_from p xs)
