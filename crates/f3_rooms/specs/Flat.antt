-- Types of whose objects nothing is allocatable.
use Rattle.std.specs.Prelude.{◌≡◌, Bool, true, not, ◌&&◌, List, []}
use Rattle.f3_meaning_whole.specs.Shape.{Shape, Whole, Logical, Record, Parts, nothing, and}
use Rattle.f3_meaning_whole.specs.Value.{Span}
use Rattle.f3_live_blocks.specs.Blocks.{Live}
use Rattle.f3_rooms.specs.Held.{Held, blocks_in}
use Rattle.f3_rooms.specs.Forms.{words_for}
use Rattle.f3_rooms.specs.Sound.{AreLaid, IsObject}

-- no component is allocatable, at any depth
abbrev mutual
  pub is_flat : Shape → Bool
  is_flat Whole = true
  is_flat Logical = true
  is_flat (Record t parts) = are_flat parts

  pub are_flat : Parts → Bool
  are_flat nothing = true
  are_flat (and c s rest) = not c.declared.kind.is_allocatable && (is_flat s && are_flat rest)

-- an object of such a type, or an array of objects, has no block beneath it
abbrev pub FlatObjectsHoldNothing : Type 0
FlatObjectsHoldNothing = (m : Live) (s : Shape) → is_flat s ≡ true → (rank : _) (ss : List Span) (b o : _) (h : Held)
    → AreLaid rank ss (words_for s) (IsObject m s) b o h → blocks_in h ≡ []
