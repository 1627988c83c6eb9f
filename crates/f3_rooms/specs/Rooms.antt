-- Where the variables of a store stand.
use Rattle.std.specs.Prelude.{ℕ, List, [], ◌∷◌, ◌++◌, map}
use Rattle.f3_program.specs.declared.declarations.Declared.{Declared}
use Rattle.f3_live_blocks.specs.Blocks.{Live}
use Rattle.f3_meaning_whole.specs.Value.{Value}
use Rattle.f3_meaning_whole.specs.Shape.{Shape}
use Rattle.f3_meaning_whole.specs.Store.{Store}
use Rattle.f3_rooms.specs.Held.{Row, blocks_in_all}
use Rattle.f3_rooms.specs.Values.{variables}

-- variables, one after another from the first word of a block on, and what the allocatables among them and beneath hold
pub record Room : Type 0 where
  pub block : ℕ
  pub declared : List Declared
  pub held : Row

-- a value that no block has, or the variables of a room
pub data Slot : Type 0 where
  Known : Value → Slot
  Stands : Room → Slot

-- what lives for the whole run, and on each level (f3_meaning_whole, Store)
pub record Rooms : Type 0 where
  pub statics : Room
  pub levels : List (List Slot)

abbrev pub room_values : List Shape → Live → Room → List Value
room_values ts m r = variables ts m r.declared r.block 0 r.held

abbrev pub slot_values : List Shape → Live → Slot → List Value
slot_values ts m (Known v) = v ∷ []
slot_values ts m (Stands r) = room_values ts m r

abbrev pub level_values : List Shape → Live → List Slot → List Value
level_values ts m [] = []
level_values ts m (s ∷ ss) = slot_values ts m s ++ level_values ts m ss

-- the store for which blocks stand
abbrev pub store_of : List Shape → Live → Rooms → Store
store_of ts m x = record { statics = room_values ts m x.statics; levels = map (level_values ts m) x.levels }

-- ---- blocks

abbrev pub room_blocks : Room → List ℕ
room_blocks r = r.block ∷ blocks_in_all r.held

abbrev pub slot_blocks : Slot → List ℕ
slot_blocks (Known v) = []
slot_blocks (Stands r) = room_blocks r

abbrev pub level_blocks : List Slot → List ℕ
level_blocks [] = []
level_blocks (s ∷ ss) = slot_blocks s ++ level_blocks ss

abbrev pub levels_blocks : List (List Slot) → List ℕ
levels_blocks [] = []
levels_blocks (l ∷ ls) = level_blocks l ++ levels_blocks ls

abbrev pub blocks_of : Rooms → List ℕ
blocks_of x = room_blocks x.statics ++ levels_blocks x.levels
