-- Parts whose blocks were given back.
use Rattle.std.proofs.Common.{◌≡◌, ℕ, true, List, refl, sym, ap, subst, ◌∙◌, arith}
use Rattle.f3_live_blocks.specs.Blocks.{Live, pins_of}
use Rattle.f3_meaning_whole.specs.Value.{Unallocated, cleared}
use Rattle.f3_meaning_whole.specs.Shape.{Shape}
use Rattle.f3_meaning_whole.specs.Store.{Root, Step, get, put}
use Rattle.f3_desc.specs.Shape.{Shape as Layout}
use Rattle.f3_objects.specs.Tree.{Tree, times as times_beneath}
use Rattle.f3_objects.specs.Holds.{Frees, is_free, left}
use Rattle.f3_objects.proofs.Emptying.{fits-left}
use Rattle.f3_objects.proofs.Trees.{free-left}
use Rattle.f3_rooms.specs.Held.{Held, Empty, Holds, Parts, blocks_in, times}
use Rattle.f3_rooms.specs.Forms.{Form, Allocatable, words_for}
use Rattle.f3_rooms.specs.Values.{formed, object}
use Rattle.f3_rooms.specs.Rooms.{Rooms, store_of}
use Rattle.f3_rooms.specs.Places.{Found}
use Rattle.f3_rooms.specs.Sound.{IsForm, IsObject, IsHolder}
use Rattle.f3_rooms.specs.Laws.{path_at, IsReplaced, with_held_in}
use Rattle.f3_rooms.proofs.Framing.{one_here}
use Rattle.f3_rooms.proofs.Stores.{parts_are_replaced}
use Rattle.f3_rooms.proofs.Within.{part_lies}
use Rattle.f3_room_objects.specs.Trees.{layout_of, tree_at}
use Rattle.f3_room_objects.specs.Laws.{BecomesTree}
use Rattle.f3_room_objects.specs.Changes.{Puts}
use Rattle.f3_room_objects.proofs.Bounds.{bounds_bare}
use Rattle.f3_room_objects.proofs.Clearing.{freed_parts_are_cleared}
use Rattle.f3_room_objects.proofs.Growing.{parts_are_apart, parts_hold_trees, trees_have_their_blocks}
use Rattle.f3_room_objects.proofs.Replacing.{trees_replace_parts}
use Rattle.f3_room_changes.specs.Allocations.{IsLaid, Gets}
use Rattle.f3_room_changes.proofs.Places.{moved_from}

-- an allocatable in which no block is held holds nothing
none_held : (m : Live) (rank n : ℕ) (s : Shape) (b o : ℕ) (h : Held) → IsHolder m rank n (IsObject m s) b o h → ((q : ℕ) → times q (blocks_in h) ≡ 0) → h ≡ Empty
none_held m rank n s b o Empty holder none = refl
none_held m rank n s b o (Parts hs) holder none = absurd holder
none_held m rank n s b o (Holds c ss h) holder none = let e = none c in let k = one_here c (blocks_in h) in absurd (omega arith)

module _ (ts : List Shape) (m n : Live) (x : Rooms) (r : Root) (way : List Step) (f : Found) (b o : ℕ) (l : Layout) (k : IsLaid ts m x r way f b o l)
    (frees : Frees m n b o (tree_at m f) true) where
  here : Frees m n f.block f.at (tree_at m f) true
  here = moved_from (λ b o. Frees m n b o (tree_at m f) true) f b o k.here.block k.here.word frees

  pub freed : Puts ts m n x r way f (cleared (get (store_of ts m x) (path_at r way)))
  freed = freed_parts_are_cleared ts m n x k.here.sound r way f k.here.found here

  free : is_free (pins_of m) (tree_at m f) ≡ true
  free = sym here.answered

  abbrev rest : Tree
  rest = left (pins_of m) (tree_at m f)

  bare : (q : ℕ) → times_beneath q rest ≡ 0
  bare = free-left (pins_of m) (tree_at m f) free

  became : BecomesTree m n x f rest
  became =
      let holds = parts_hold_trees m f (part_lies ts m x k.here.sound r way f k.here.found) (parts_are_apart ts m x k.here.sound r way f k.here.found) in
      trees_replace_parts ts m n x k.here.sound r way f k.here.found rest (fits-left (pins_of m) (layout_of f) (tree_at m f) holds.fits) (bounds_bare rest bare)
      (λ q. let e = bare q in omega arith) here.replaced

  replaced : IsReplaced ts m n x r way f became.held
  replaced = parts_are_replaced ts m n x k.here.sound r way f k.here.found became.held became.replaces

  none : (q : ℕ) → times q (blocks_in became.held) ≡ 0
  none q = sym (trees_have_their_blocks n (with_held_in f became.held) (part_lies ts n _ replaced.sound r way (with_held_in f became.held) replaced.found) q)
      ∙ ap (times_beneath q) became.is ∙ bare q

  module _ (rank : ℕ) (is : f.form ≡ Allocatable rank) where
    empty : became.held ≡ Empty
    empty = none_held n rank (words_for f.shape) f.shape f.block f.at became.held
        (subst (λ (form : Form). IsForm n form (words_for f.shape) (IsObject n f.shape) f.block f.at became.held) is became.replaces.form) none

    emptied : IsReplaced ts m n x r way f Empty
    emptied = subst (IsReplaced ts m n x r way f) empty replaced

    pub deallocated : Gets ts m n x r way f Empty Unallocated
    deallocated = record {
      becomes = record {
        store = emptied.store ∙ ap (put (store_of ts m x) (path_at r way)) (ap (λ (form : Form). formed form (words_for f.shape) (object n f.shape) f.block f.at Empty) is);
        sound = emptied.sound;
      };
      found = emptied.found;
    }
