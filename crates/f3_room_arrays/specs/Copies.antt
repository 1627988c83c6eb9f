-- Objects that are copied with what they hold, out of a store (ISO/IEC 1539-1:2004, 7.1.8 and 7.4.1.3).
use Rattle.std.specs.Prelude.{◌≡◌, ◌≢◌, ℕ, List, length, map}
use Rattle.std.specs.FinMap.{get as find}
use Rattle.f3_live_blocks.specs.Blocks.{Live}
use Rattle.f3_heap_laws.specs.Answers.{Answer, Sizes}
use Rattle.f3_meaning_whole.specs.Shape.{Shape}
use Rattle.f3_meaning_whole.specs.Store.{Path, get}
use Rattle.f3_desc.specs.declared.descriptor.Descriptor.{Descriptor}
use Rattle.f3_desc.specs.Shape.{Shape as Layout}
use Rattle.f3_rooms.specs.Held.{Row, blocks_in_all, times}
use Rattle.f3_rooms.specs.Rooms.{Rooms, blocks_of, store_of}
use Rattle.f3_rooms.specs.Sound.{IsSound}
use Rattle.f3_room_objects.specs.Trees.{layout_for}
use Rattle.f3_room_arrays.specs.Elements.{Tells, held_row}
use Rattle.f3_room_arrays.specs.Changes.{AreLoose}

-- the elements are the objects at these paths of a sound store, of the type of a layout; in the block for the copies no variable stands, and
-- nothing that one holds
pub record AreCopyable (ts : List Shape) (m : Live) (x : Rooms) (a : Descriptor) (s : Shape) (ps : List Path) (l : Layout) (b : ℕ) : Type 0 where
  pub sound : IsSound ts m x
  pub tells : Tells ts x a s ps
  pub layout : layout_for s ≡ l
  pub apart : times b (blocks_of x) ≡ 0

-- From a word of a block on stand copies of these objects, which hold new blocks; all other blocks are as they were, and the store.
pub record CopiesAll (ts : List Shape) (m n : Live) (x : Rooms) (s : Shape) (ps : List Path) (b o : ℕ) : Type 0 where
  pub held : Row
  pub loose : AreLoose n x s (length ps) b o held
  pub values : held_row n s (length ps) b o held ≡ map (get (store_of ts m x)) ps
  pub others : (q : ℕ) → q ≢ b → times q (blocks_in_all held) ≡ 0 → find n q ≡ find m q
  pub same : (store_of ts n x ≡ store_of ts m x) × IsSound ts n x

-- all blocks but one are as they were
abbrev pub OthersStay : Live → Live → ℕ → Type 0
OthersStay m n b = (q : ℕ) → q ≢ b → find n q ≡ find m q

-- the rule of a heap allows this answer to some take
abbrev pub IsAnswer : {R : Type 0} → (R → Sizes → ℕ → Answer → Type 0) → Answer → Type 0
IsAnswer {R} allows answer = (kept : R) × (blocks : Sizes) × (words : ℕ) × allows kept blocks words answer
