-- Levels of variables that begin and end in words.
use Rattle.std.specs.Prelude.{◌≡◌, ◌<◌, ◌≤◌, ℕ, ◌+◌, false, List, [], ◌∷◌, ◌++◌, length, take, None, Some, slice_get}
use Rattle.std.specs.FinMap.{get as find}
use Rattle.f3_program.specs.declared.declarations.Declared.{Declared}
use Rattle.f3_live_blocks.specs.Blocks.{Live, words_of, with_taken}
use Rattle.f3_heap_laws.specs.Account.{used_by, r as taken_for}
use Rattle.f3_meaning_whole.specs.Shape.{Shape, Parts, nothing, and, shape_in}
use Rattle.f3_desc.specs.Shape.{Shape as Layout, row}
use Rattle.f3_objects.specs.Tree.{Tree, footprint}
use Rattle.f3_rooms.specs.Held.{end, times}
use Rattle.f3_rooms.specs.Forms.{form_of}
use Rattle.f3_rooms.specs.Rooms.{Room, Stands, Rooms, room_values, room_blocks, store_of}
use Rattle.f3_rooms.specs.Sound.{IsRoom, IsSound}
use Rattle.f3_rooms.specs.Laws.{with_level, before_level}
use Rattle.f3_room_objects.specs.Trees.{components_tree, layout_for, layouts_for, formed_as}
use Rattle.f3_room_levels.specs.Initial.{initial_words, initial_values}
use Rattle.f3_room_levels.specs.Writing.{with_words_from}

-- ---- how a level begins

-- variables at the front of a block, which hold nothing
abbrev pub begun : ℕ → List Declared → Room
begun b ds = record { block = b; declared = ds; held = end }

-- one level more, of variables with their initial values, and all is sound
pub record BeginsLevel (ts : List Shape) (m n : Live) (ds : List Declared) (b : ℕ) (x : Rooms) : Type 0 where
  pub store : store_of ts n (with_level x (Stands (begun b ds) ∷ []))
      ≡ record { statics = (store_of ts m x).statics; levels = (store_of ts m x).levels ++ initial_values ts ds ∷ [] }
  pub sound : IsSound ts n (with_level x (Stands (begun b ds) ∷ []))

-- a new block of so many words was taken, and these variables begin at its front: so each store for which blocks stood has one level more
pub record Begins (ts : List Shape) (m n : Live) (ds : List Declared) (words b : ℕ) : Type 0 where
  pub fresh : find m b ≡ None
  pub is : n ≡ with_words_from (with_taken m b words) b 0 (initial_words ts ds)
  pub room : IsRoom ts n (begun b ds)
  pub values : room_values ts n (begun b ds) ≡ initial_values ts ds
  pub level : (x : Rooms) → IsSound ts m x → BeginsLevel ts m n ds b x

-- ---- how it ends

-- variables one after another are as the components of an object
abbrev pub as_parts : List Shape → List Declared → Parts
as_parts ts [] = nothing
as_parts ts (d ∷ ds) = and (record { declared = d; is_private = false }) (shape_in ts d.kind.of) (as_parts ts ds)

abbrev pub room_layout : List Shape → List Declared → Layout
room_layout ts ds = row (layouts_for (as_parts ts ds))

abbrev pub room_tree : List Shape → Live → Room → Tree
room_tree ts m r = components_tree m (as_parts ts r.declared) r.block 0 r.held

-- the layout of one
abbrev pub variable_layout : List Shape → Declared → Layout
variable_layout ts d = formed_as (form_of d) (layout_for (shape_in ts d.kind.of))

-- These variables stand at the front of a block, and their blocks are their own: each is there once.
pub record StandAlone (ts : List Shape) (m : Live) (ds : List Declared) (b : ℕ) (r : Room) : Type 0 where
  pub room : IsRoom ts m r
  pub here : r.block ≡ b
  pub these : r.declared ≡ ds
  pub apart : (q : ℕ) → times q (room_blocks r) ≤ 1

-- so do variables of this layout
pub record StandLaid (ts : List Shape) (m : Live) (l : Layout) (b : ℕ) (r : Room) : Type 0 where
  pub alone : StandAlone ts m r.declared b r
  pub layout : room_layout ts r.declared ≡ l

-- what is before a level stays, and is sound
pub record EndsLevel (ts : List Shape) (m n : Live) (x : Rooms) (k : ℕ) : Type 0 where
  pub store : store_of ts n (before_level x k) ≡ record { statics = (store_of ts m x).statics; levels = take k (store_of ts m x).levels }
  pub sound : IsSound ts n (before_level x k)

-- The block of variables and those of all that they hold were given back, and all others are as they were: so a store for which blocks
-- stood, and which had these variables on a level, has what was before it.
pub record Ends (ts : List Shape) (m n : Live) (r : Room) : Type 0 where
  pub given : (q : ℕ) → 0 < times q (room_blocks r) → find n q ≡ None
  pub others : (q : ℕ) → times q (room_blocks r) ≡ 0 → find n q ≡ find m q
  pub used : used_by n + (footprint (room_tree ts m r) + taken_for (length (words_of m r.block))) ≡ used_by m
  pub level : (x : Rooms) (k : ℕ) → IsSound ts m x → slice_get x.levels k ≡ Some (Stands r ∷ []) → EndsLevel ts m n x k
