-- Parts at words of blocks.
use Rattle.std.proofs.Common.{◌≡◌, ℕ, ◌+◌, ◌*◌, ◌<◌, ◌≤◌, List, length, sym, subst, arith}
use Rattle.std.specs.Prelude.{◌↔◌, Result, Ok, Err, OnOk, OnErr}
use Rattle.f3_live_blocks.specs.Blocks.{Live, IsLive, words_of, pins_of}
use Rattle.f3_meaning_whole.specs.Shape.{Shape}
use Rattle.f3_meaning_whole.specs.Store.{Root, Step}
use Rattle.f3_desc.specs.Shape.{Shape as Layout, width}
use Rattle.f3_objects.specs.Holds.{Holds as HoldsTree, NonePinned}
use Rattle.f3_objects.proofs.Trees.{size-fits}
use Rattle.f3_rooms.specs.Held.{blocks_in, times}
use Rattle.f3_rooms.specs.Forms.{Form, Allocatable, form_words, words_for}
use Rattle.f3_rooms.specs.Rooms.{Rooms}
use Rattle.f3_rooms.specs.Places.{Found}
use Rattle.f3_rooms.specs.Laws.{IsWithin}
use Rattle.f3_rooms.proofs.Within.{part_lies}
use Rattle.f3_room_objects.specs.Trees.{layout_of, tree_at}
use Rattle.f3_room_objects.proofs.Growing.{parts_are_apart, parts_hold_trees, trees_have_their_blocks}
use Rattle.f3_room_changes.specs.Allocations.{IsAt, IsLaid}

-- what is known of the block and the word of a part is known of those where it begins
pub moved_to : (P : ℕ → ℕ → Type 0) (f : Found) (b o : ℕ) → f.block ≡ b → f.at ≡ o → P f.block f.at → P b o
moved_to P f b o e g p = subst (λ k. P k o) e (subst (P f.block) g p)

pub moved_from : (P : ℕ → ℕ → Type 0) (f : Found) (b o : ℕ) → f.block ≡ b → f.at ≡ o → P b o → P f.block f.at
moved_from P f b o e g p = subst (λ k. P k f.at) (sym e) (subst (P b) (sym g) p)

module _ (ts : List Shape) (m : Live) (x : Rooms) (r : Root) (way : List Step) (f : Found) (b o : ℕ) where
  pub at_within : IsAt ts m x r way f b o → IsWithin m f
  at_within k = part_lies ts m x k.sound r way f k.found

  pub at_holds : IsAt ts m x r way f b o → HoldsTree m b o (layout_of f) (tree_at m f)
  at_holds k = moved_to (λ b o. HoldsTree m b o (layout_of f) (tree_at m f)) f b o k.block k.word
      (parts_hold_trees m f (at_within k) (parts_are_apart ts m x k.sound r way f k.found))

  pub at_live : IsAt ts m x r way f b o → IsLive m b
  at_live k = subst (IsLive m) k.block (at_within k).live

  pub at_long : (rank : ℕ) → f.form ≡ Allocatable rank → IsAt ts m x r way f b o → o + (1 + 2 * rank) ≤ length (words_of m b)
  at_long rank is k = moved_to (λ b o. o + (1 + 2 * rank) ≤ length (words_of m b)) f b o k.block k.word
      (subst (λ (form : Form). f.at + form_words form (words_for f.shape) ≤ length (words_of m f.block)) is (at_within k).within)

  module _ (l : Layout) where
    pub laid_holds : IsLaid ts m x r way f b o l → HoldsTree m b o l (tree_at m f)
    laid_holds k = subst (λ l. HoldsTree m b o l (tree_at m f)) k.layout (at_holds k.here)

    pub laid_long : IsLaid ts m x r way f b o l → o + width l ≤ length (words_of m b)
    laid_long k = let h = laid_holds k in let within = h.stands.within in let size = size-fits l (tree_at m f) h.fits in omega arith

    pub laid_pins : IsLaid ts m x r way f b o l → NonePinned (pins_of m) (tree_at m f) ↔ ((q : ℕ) → 0 < times q (blocks_in f.held) → pins_of m q ≡ 0)
    laid_pins k = (
      λ none q lt. let e = trees_have_their_blocks m f (at_within k.here) q in none q (omega arith),
      λ none q lt. let e = trees_have_their_blocks m f (at_within k.here) q in none q (omega arith),
    )

-- what follows from what is known of an answer
pub when_ok : {T E : Type 0} (r : Result T E) (P Q : Type 0) → (P → Q) → OnOk r P → OnOk r Q
when_ok (Ok x) P Q f p = f p
when_ok (Err e) P Q f p = tt

pub when_err : {T E : Type 0} (r : Result T E) (P Q : Type 0) → (P → Q) → OnErr r P → OnErr r Q
when_err (Ok x) P Q f p = tt
when_err (Err e) P Q f p = f p
