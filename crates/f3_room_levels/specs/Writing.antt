-- Words that are written one after another.
use Rattle.std.specs.Prelude.{ℕ, ◌+◌, ◌≤◌, ℤ, List, [], ◌∷◌, length}
use Rattle.f3_live_blocks.specs.Blocks.{Live, IsLive, words_of}
use Rattle.f3_rooms.specs.Places.{with_word}
use Rattle.f3_rooms.specs.Laws.{AreZeros}

-- a block with these words from one on
abbrev pub with_words_from : Live → ℕ → ℕ → List ℤ → Live
with_words_from m b o [] = m
with_words_from m b o (w ∷ ws) = with_words_from (with_word m b o w) b (o + 1) ws

-- a live block has so many words from one on, which are 0
pub record IsBlank (m : Live) (b o n : ℕ) : Type 0 where
  pub live : IsLive m b
  pub within : o + n ≤ length (words_of m b)
  pub zeros : AreZeros m b o n
