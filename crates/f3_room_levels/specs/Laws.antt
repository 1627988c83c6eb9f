-- Laws of the words with which variables begin, and of levels that may end.
use Rattle.std.specs.Prelude.{◌≡◌, ℕ, List, [], ◌∷◌, length, map, take, Some, slice_get}
use Rattle.f3_program.specs.declared.declarations.Declared.{Declared}
use Rattle.f3_live_blocks.specs.Blocks.{Live, IsLive, words_of}
use Rattle.f3_meaning_whole.specs.Shape.{Shape}
use Rattle.f3_meaning_whole.specs.Act.{Setting}
use Rattle.f3_meaning_whole.specs.Exec.{initial_value}
use Rattle.f3_rooms.specs.Forms.{total}
use Rattle.f3_rooms.specs.Rooms.{Room, Stands, Rooms, room_values}
use Rattle.f3_rooms.specs.Sound.{IsRoom, IsSound}
use Rattle.f3_room_levels.specs.Initial.{AllCanBegin, initial_words}
use Rattle.f3_room_levels.specs.Levels.{begun, StandAlone}

-- Such words are as many as those of the variables.
abbrev pub InitialWordsAreEnough : Type 0
InitialWordsAreEnough = (ts : List Shape) (ds : List Declared) → AllCanBegin ts ds → length (initial_words ts ds) ≡ total ts ds

-- Variables at the front of a block whose first words are these have their initial values, hold nothing, and are sound.
abbrev pub InitialWordsAreInitial : Type 0
InitialWordsAreInitial = (g : Setting) (m : Live) (b : ℕ) (ds : List Declared) → AllCanBegin g.shapes ds → IsLive m b
    → take (total g.shapes ds) (words_of m b) ≡ initial_words g.shapes ds
    → (room_values g.shapes m (begun b ds) ≡ map (initial_value g) ds) × IsRoom g.shapes m (begun b ds)

-- The variables of a level of a sound store stand alone.
abbrev pub LevelsStandAlone : Type 0
LevelsStandAlone = (ts : List Shape) (m : Live) (x : Rooms) (k : ℕ) (r : Room) → IsSound ts m x → slice_get x.levels k ≡ Some (Stands r ∷ [])
    → StandAlone ts m r.declared r.block r
