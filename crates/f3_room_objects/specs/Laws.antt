-- Laws of parts of variables as trees.
use Rattle.std.specs.Prelude.{◌≡◌, ◌≤◌, ℕ, List, Some}
use Rattle.f3_live_blocks.specs.Blocks.{Live}
use Rattle.f3_meaning_whole.specs.Shape.{Shape}
use Rattle.f3_meaning_whole.specs.Store.{Root, Step}
use Rattle.f3_objects.specs.Tree.{Tree, Fits, times as times_beneath}
use Rattle.f3_objects.specs.Holds.{Holds, Replaces as TreeReplaces}
use Rattle.f3_rooms.specs.Held.{Held, blocks_in, times}
use Rattle.f3_rooms.specs.Rooms.{Rooms}
use Rattle.f3_rooms.specs.Places.{Found, found}
use Rattle.f3_rooms.specs.Sound.{IsSound}
use Rattle.f3_rooms.specs.Laws.{IsWithin, Replaces, with_held_in}
use Rattle.f3_room_objects.specs.Trees.{layout_of, tree_at, HaveBounds}

-- each block that is held in a part is held once, and none is the one in which it stands
pub record IsApart (f : Found) : Type 0 where
  pub once : (q : ℕ) → times q (blocks_in f.held) ≤ 1
  pub own : times f.block (blocks_in f.held) ≡ 0

abbrev pub PartsAreApart : Type 0
PartsAreApart = (ts : List Shape) (m : Live) (x : Rooms) → IsSound ts m x → (r : Root) (way : List Step) (f : Found) → found ts x r way ≡ Some f → IsApart f

-- A part holds a tree of its layout.
abbrev pub PartsHoldTrees : Type 0
PartsHoldTrees = (m : Live) (f : Found) → IsWithin m f → IsApart f → Holds m f.block f.at (layout_of f) (tree_at m f)

-- The blocks beneath it are those that are held in the part.
abbrev pub TreesHaveTheirBlocks : Type 0
TreesHaveTheirBlocks = (m : Live) (f : Found) → IsWithin m f → (q : ℕ) → times_beneath q (tree_at m f) ≡ times q (blocks_in f.held)

-- what a part holds that has become another: of this tree
pub record BecomesTree (m n : Live) (x : Rooms) (f : Found) (u : Tree) : Type 0 where
  pub held : Held
  pub replaces : Replaces m n x f held
  pub is : tree_at n (with_held_in f held) ≡ u

-- Where another tree of its layout takes the place of a part's, the part has become another.
abbrev pub TreesReplaceParts : Type 0
TreesReplaceParts = (ts : List Shape) (m n : Live) (x : Rooms) → IsSound ts m x → (r : Root) (way : List Step) (f : Found) → found ts x r way ≡ Some f
    → (u : Tree) → Fits (layout_of f) u → HaveBounds u → ((q : ℕ) → times_beneath q u ≤ 1) → TreeReplaces m n f.block f.at (tree_at m f) u
    → BecomesTree m n x f u
