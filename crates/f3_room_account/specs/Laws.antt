-- Laws of the words in use.
use Rattle.std.specs.Prelude.{◌≡◌, ◌<◌, ◌⊎◌, ℕ, ℤ, pos, List, [], length, map, drop, Some}
use Rattle.f3_live_blocks.specs.Blocks.{Live, IsLive, words_of, with_taken}
use Rattle.f3_heap_laws.specs.Account.{r as taken_by, used_by}
use Rattle.f3_meaning_whole.specs.Value.{Span, cleared}
use Rattle.f3_meaning_whole.specs.Shape.{Shape}
use Rattle.f3_meaning_whole.specs.Store.{Root, Step}
use Rattle.f3_rooms.specs.Held.{Held, Empty, Holds, blocks_in, times}
use Rattle.f3_rooms.specs.Forms.{Allocatable}
use Rattle.f3_rooms.specs.Rooms.{Slot, Rooms, level_blocks, levels_blocks, blocks_of, store_of}
use Rattle.f3_rooms.specs.Places.{Found, found, with_word, rooms_with}
use Rattle.f3_rooms.specs.Sound.{IsSound}
use Rattle.f3_rooms.specs.Laws.{with_holder, without, with_level, before_level}
use Rattle.f3_room_account.specs.StoreWords.{store_words, plan_of}

-- each live block is that of a room, or of what an allocatable holds
abbrev pub AreAll : Live → Rooms → Type 0
AreAll m x = (b : ℕ) → IsLive m b → 0 < times b (blocks_of x)

-- Nothing leaks: the words in use are those that the store asks for.
abbrev pub UsedIsWords : Type 0
UsedIsWords = (ts : List Shape) (m : Live) (x : Rooms) → IsSound ts m x → AreAll m x → used_by m ≡ store_words ts (plan_of m x) (store_of ts m x)

-- Where no level is left and nothing is allocated in the variables that live for the whole run, only their block is in use.
abbrev pub NothingIsLeft : Type 0
NothingIsLeft = (ts : List Shape) (m : Live) (x : Rooms) → IsSound ts m x → AreAll m x → (store_of ts m x).levels ≡ []
    → map cleared (store_of ts m x).statics ≡ (store_of ts m x).statics
    → (used_by m ≡ taken_by (length (words_of m (x.statics).block))) × ((b : ℕ) → IsLive m b → b ≡ (x.statics).block)

-- ---- what keeps them all

-- Something else is held in a part: no block is live but those that were, without what was held there, and those that are held there now.
abbrev pub PartsKeepAll : Type 0
PartsKeepAll = (ts : List Shape) (m n : Live) (x : Rooms) → IsSound ts m x → AreAll m x → (r : Root) (way : List Step) (f : Found) → found ts x r way ≡ Some f
    → (u : Held) → ((b : ℕ) → IsLive n b → (IsLive m b × (times b (blocks_in f.held) ≡ 0)) ⊎ (0 < times b (blocks_in u))) → AreAll n (rooms_with x r way u)

-- What an allocatable holds goes over to another that holds nothing, and no block becomes live (13.7.82).
abbrev pub MovesKeepAll : Type 0
MovesKeepAll = (ts : List Shape) (m n : Live) (x : Rooms) → IsSound ts m x → AreAll m x → (r q : Root) (way other : List Step) (f g : Found)
    → found ts x r way ≡ Some f → (rank : ℕ) → f.form ≡ Allocatable rank → found ts (rooms_with x r way Empty) q other ≡ Some g → g.held ≡ Empty
    → ((b : ℕ) → IsLive n b → IsLive m b) → AreAll n (rooms_with (rooms_with x r way Empty) q other f.held)

-- So it is where one word is another, and where an allocatable is allocated, freed, or moved, in words (f3_rooms, Laws).
abbrev pub WordsKeepAll : Type 0
WordsKeepAll = (ts : List Shape) (m : Live) (x : Rooms) → IsSound ts m x → AreAll m x → (r : Root) (way : List Step) (f : Found) → found ts x r way ≡ Some f
    → (i : ℕ) (z : ℤ) → AreAll (with_word m f.block i z) x

abbrev pub AllocatingKeepsAll : Type 0
AllocatingKeepsAll = (ts : List Shape) (m : Live) (x : Rooms) → IsSound ts m x → AreAll m x → (r : Root) (way : List Step) (f : Found) → found ts x r way ≡ Some f
    → f.held ≡ Empty → (c n : ℕ) (ss : List Span) → AreAll (with_holder (with_taken m c n) f.block f.at c ss) (rooms_with x r way (Holds c ss Empty))

abbrev pub FreeingKeepsAll : Type 0
FreeingKeepsAll = (ts : List Shape) (m : Live) (x : Rooms) → IsSound ts m x → AreAll m x → (r : Root) (way : List Step) (f : Found) → found ts x r way ≡ Some f
    → AreAll (with_word (without (blocks_in f.held) m) f.block f.at (pos 0)) (rooms_with x r way Empty)

abbrev pub MovingKeepsAll : Type 0
MovingKeepsAll = (ts : List Shape) (m : Live) (x : Rooms) → IsSound ts m x → AreAll m x → (r q : Root) (way other : List Step) (f g : Found)
    → found ts x r way ≡ Some f → (rank : ℕ) → f.form ≡ Allocatable rank → (c : ℕ) (ss : List Span) (h : Held) → f.held ≡ Holds c ss h
    → found ts (rooms_with x r way Empty) q other ≡ Some g → g.held ≡ Empty
    → AreAll (with_holder (with_word m f.block f.at (pos 0)) g.block g.at c ss) (rooms_with (rooms_with x r way Empty) q other (Holds c ss h))

-- A level begins: no block is live but those that were, and those of the level.
abbrev pub LevelsBeginWithAll : Type 0
LevelsBeginWithAll = (m n : Live) (x : Rooms) (l : List Slot) → AreAll m x → ((b : ℕ) → IsLive n b → IsLive m b ⊎ (0 < times b (level_blocks l))) → AreAll n (with_level x l)

-- Levels end: no block is live but those that were, without those of the levels.
abbrev pub LevelsEndWithAll : Type 0
LevelsEndWithAll = (m n : Live) (x : Rooms) (k : ℕ) → AreAll m x → ((b : ℕ) → IsLive n b → IsLive m b × (times b (levels_blocks (drop k x.levels)) ≡ 0)) → AreAll n (before_level x k)
