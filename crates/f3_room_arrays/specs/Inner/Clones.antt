-- One object that is copied over words of another block.
use Rattle.std.specs.Prelude.{◌≡◌, ◌≢◌, ◌≤◌, ◌<◌, ◌+◌, ℕ, ℤ, List, length, None}
use Rattle.std.specs.FinMap.{get}
use Rattle.f3_live_blocks.specs.Blocks.{Live, IsLive, words_of, pins_of, with_words}
use Rattle.f3_desc.specs.Shape.{Shape, width}
use Rattle.f3_objects.specs.Tree.{Tree, words, times, value, Fits}
use Rattle.f3_objects.specs.Holds.{Held, Holds, with_words_at}

-- an object, and room for its copy in a block that is not the object's and not beneath it
pub record IsReady (m : Live) (from from_at to to_at : ℕ) (s : Shape) (t : Tree) : Type 0 where
  pub source : Holds m from from_at s t
  pub apart : to ≢ from
  pub beneath : times to t ≡ 0
  pub live : IsLive m to
  pub within : to_at + width s ≤ length (words_of m to)

-- a copy stands there, with new blocks beneath, and all other blocks are as they were
pub record Clones (old new : Live) (to to_at : ℕ) (s : Shape) (t : Tree) : Type 0 where
  pub copy : Tree
  pub fits : Fits s copy
  pub once : (q : ℕ) → times q copy ≤ 1
  pub equal : value copy ≡ value t
  pub live : IsLive new to
  pub words : words_of new to ≡ with_words_at (words_of old to) to_at (words copy)
  pub held : Held new copy
  pub taken : (q : ℕ) → 0 < times q copy → (get old q ≡ None) × (pins_of new q ≡ 0)
  pub others : (q : ℕ) → q ≢ to → times q copy ≡ 0 → get new q ≡ get old q

-- so many words there are others
pub record Spoils (old new : Live) (to to_at n : ℕ) : Type 0 where
  pub words : List ℤ
  pub many : length words ≡ n
  pub is : new ≡ with_words old to (with_words_at (words_of old to) to_at words)
