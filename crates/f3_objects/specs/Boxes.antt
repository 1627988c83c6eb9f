-- Objects that are all that a block holds (own rule), and what it is to take one out.
use Rattle.std.specs.Prelude.{ℕ, ◌≡◌, None}
use Rattle.std.specs.FinMap.{get, remove}
use Rattle.f3_live_blocks.specs.Blocks.{Live, words_of, with_words}
use Rattle.f3_desc.specs.Shape.{Shape}
use Rattle.f3_objects.specs.Tree.{Tree, words}
use Rattle.f3_objects.specs.Holds.{Holds, with_words_at}
use Rattle.f3_objects.specs.Copies.{Ready}

-- an object that is all that a block holds, and a place for it, where nothing is allocated, in a block that is not this one and not beneath it
pub record Boxed (m : Live) (block to to_at : ℕ) (s : Shape) (t u : Tree) : Type 0 where
  pub ready : Ready m block 0 to to_at s t u
  pub exact : words_of m block ≡ words t

-- the words of one block are written at a place of another, and the block is gone
abbrev pub with_unboxed : Live → ℕ → ℕ → ℕ → Live
with_unboxed m block to to_at = remove (with_words m to (with_words_at (words_of m to) to_at (words_of m block))) block

-- what was all that the block held is now the object at the place, with the blocks beneath it; the block is gone, and all else is unchanged
pub record Unboxes (old new : Live) (block to to_at : ℕ) (s : Shape) (t : Tree) : Type 0 where
  pub is : new ≡ with_unboxed old block to to_at
  pub target : Holds new to to_at s t
  pub gone : get new block ≡ None
