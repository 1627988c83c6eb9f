-- Words that many objects take.
use Rattle.std.specs.Prelude.{⊤, ◌≢◌, ℕ, ℤ, nat_lt, if◌then◌else◌, List, [], ◌∷◌, unsigned_abs}
use Rattle.f3_live_blocks.specs.Blocks.{Live, IsLive, words_of}
use Rattle.f3_meaning_whole.specs.Shape.{shape_in}
use Rattle.f3_room_places.specs.Places.{HasTables, shapes}
use Rattle.f3_room_levels.specs.Initial.{object_words, TypeCanBegin}
use Rattle.f3_objects.specs.Holds.{with_words_at}
use Rattle.f3_word_copies.specs.declared.spreading.Source.{Source}
use Rattle.f3_word_copies.specs.declared.spreading.Source.TheVariants.{Word, Block, Initial}

abbrev pub source_words : Live → Source → List ℤ
source_words m (Word z) = z ∷ []
source_words m (Block b) = words_of m b
source_words m (Initial types of) = object_words (shape_in (shapes types) of)

-- the words do not stand in the block of the objects, or are those with which a type begins that can
abbrev pub IsSource : Live → ℕ → Source → Type 0
IsSource m block (Word z) = ⊤
IsSource m block (Block b) = IsLive m b × (b ≢ block)
IsSource m block (Initial types of) = HasTables types × TypeCanBegin (shape_in (shapes types) of)

-- these words stand at each of these places
abbrev pub spread_over : List ℤ → List ℤ → List ℤ → List ℤ
spread_over us ws [] = us
spread_over us ws (z ∷ zs) = spread_over (with_words_at us (unsigned_abs z) ws) ws zs

-- the smaller of two numbers
abbrev pub fewer_of : ℕ → ℕ → ℕ
fewer_of n k = if nat_lt n k then n else k
