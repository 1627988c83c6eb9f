-- Two allocatables in a block.
use Rattle.std.specs.Prelude.{ℕ, pos, ◌≡◌, ◌≢◌, ◌<◌, [], ◌∷◌, length, slice_index_or}
use Rattle.f3_live_blocks.specs.Blocks.{Live, IsLive, words_of}

-- a block of two integers, and one of two allocatables of rank 1, of which the first has that block and the second is not allocated
pub record AreLists (m : Live) (numbers lists : ℕ) : Type 0 where
  pub beneath : IsLive m numbers
  pub live : IsLive m lists
  pub apart : lists ≢ numbers
  pub positive : 0 < numbers
  pub contents : words_of m numbers ≡ pos 40 ∷ pos 41 ∷ []
  pub written : words_of m lists ≡ pos numbers ∷ pos 1 ∷ pos 2 ∷ pos 0 ∷ pos 0 ∷ pos 0 ∷ []

-- and another block for their copy
pub record AreReady (m : Live) (numbers lists copy : ℕ) : Type 0 where
  pub known : AreLists m numbers lists
  pub live : IsLive m copy
  pub apart : copy ≢ lists
  pub beneath : copy ≢ numbers
  pub zeros : words_of m copy ≡ pos 0 ∷ pos 0 ∷ pos 0 ∷ pos 0 ∷ pos 0 ∷ pos 0 ∷ []

-- the first word of a block names a live block
pub record IsHead (m : Live) (b : ℕ) : Type 0 where
  pub live : IsLive m b
  pub within : 0 < length (words_of m b)
  pub beneath : (q : ℕ) → slice_index_or (words_of m b) 0 (pos 0) ≡ pos q → IsLive m q
