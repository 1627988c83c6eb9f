-- Parts that are cleared, and copies of parts.
use Rattle.std.proofs.Common.{◌≡◌, ◌≢◌, ℕ, pos, List, [], replicate, refl, sym, ap, subst, ◌∙◌, arith}
use Rattle.f3_live_blocks.specs.Blocks.{Live, words_of, with_words}
use Rattle.f3_heap_laws.specs.Answers.{Take}
use Rattle.f3_live_blocks.proofs.Laws.{get-insert_other, live-insert_same, words-insert_same, pins-insert_same}
use Rattle.f3_meaning_whole.specs.Value.{Value}
use Rattle.f3_meaning_whole.specs.Shape.{Shape}
use Rattle.f3_meaning_whole.specs.Store.{Root, Step, get}
use Rattle.f3_desc.specs.Shape.{Shape as Layout, width}
use Rattle.f3_objects.specs.Tree.{Tree, Fits, IsBare as IsBareTree, words, times as times_beneath, value}
use Rattle.f3_objects.specs.Holds.{Replaces as TreeReplaces, with_words_at}
use Rattle.f3_objects.specs.Copies.{Ready, Copies, Empties}
use Rattle.f3_objects.proofs.Blanks.{held-bare}
use Rattle.f3_rooms.specs.Held.{blocks_in, times}
use Rattle.f3_rooms.specs.Rooms.{Rooms, store_of}
use Rattle.f3_rooms.specs.Places.{Found}
use Rattle.f3_rooms.specs.Laws.{path_at}
use Rattle.f3_room_objects.specs.Trees.{formed_as, layout_for, layout_of, tree_at}
use Rattle.f3_room_objects.specs.Changes.{IsBare, Puts, blank_value}
use Rattle.f3_room_objects.proofs.Blanking.{cleared_parts_are_blank}
use Rattle.f3_room_objects.proofs.Bounds.{bounds_bare}
use Rattle.f3_room_objects.proofs.Growing.{trees_have_their_blocks}
use Rattle.f3_room_objects.proofs.Putting.{tree_put, copies_are_put, parts_are_ready}
use Rattle.f3_room_objects.proofs.Values.{read_part}
use Rattle.f3_room_changes.specs.Allocations.{IsLaid, IsCopyable}
use Rattle.f3_room_changes.proofs.Places.{moved_to, moved_from, at_within}

abbrev Zeroed : Live → Live → Layout → ℕ → ℕ → Type 0
Zeroed m n l b o = n ≡ with_words m b (with_words_at (words_of m b) o (replicate (width l) (pos 0)))

pub cleared : (ts : List Shape) (m n : Live) (x : Rooms) (r : Root) (way : List Step) (f : Found) (b o : ℕ) (l : Layout) → IsLaid ts m x r way f b o l → IsBare f
    → Zeroed m n l b o → Puts ts m n x r way f (blank_value f)
cleared ts m n x r way f b o l k bare zeros =
    cleared_parts_are_blank ts m n x k.here.sound r way f k.here.found bare
    (moved_from (Zeroed m n (layout_of f)) f b o k.here.block k.here.word (subst (λ l. Zeroed m n l b o) (sym k.layout) zeros))

-- ---- copies

module _ (ts : List Shape) (m : Live) (x : Rooms) (q r : Root) (other way : List Step) (g f : Found) (b o c i : ℕ) (l : Layout)
    (k : IsCopyable ts m x q r other way g f b o c i l) where
  -- both are laid out so
  like : layout_of f ≡ l
  like = ap (λ s. formed_as f.form (layout_for s)) (sym k.shape) ∙ ap (λ form. formed_as form (layout_for g.shape)) (sym k.form) ∙ k.source.layout

  elsewhere : f.block ≢ g.block
  elsewhere e = k.apart (sym k.target.block ∙ e ∙ k.source.here.block)

  pub ready : Ready m b o c i l (tree_at m g) (tree_at m f)
  ready =
      let own = parts_are_ready ts m x k.target.sound r q way other f g k.target.found k.source.here.found k.form k.shape elsewhere
      (ap (λ j. times j (blocks_in g.held)) k.target.block ∙ k.beneath) k.bare in
      moved_to (λ b o. Ready m b o c i l (tree_at m g) (tree_at m f)) g b o k.source.here.block k.source.here.word
      (moved_to (λ c i. Ready m g.block g.at c i l (tree_at m g) (tree_at m f)) f c i k.target.block k.target.word
      (subst (λ l. Ready m g.block g.at f.block f.at l (tree_at m g) (tree_at m f)) like own))

  module _ (n : Live) where
    pub copied : {W : List Take → Type 0} → Copies m n c i l (tree_at m g) (tree_at m f) [] W → Puts ts m n x r way f (get (store_of ts m x) (path_at q other))
    copied made =
        copies_are_put ts m n x k.target.sound r q way other f g k.target.found k.source.here.found k.form k.shape made.copy
        (subst (λ l. Fits l made.copy) (sym like) made.fits) made.once (made.equal refl)
        (moved_from (λ c i. TreeReplaces m n c i (tree_at m f) made.copy) f c i k.target.block k.target.word made.replaced)

    -- a tree in which nothing is held is written over another
    bare_written : (u : Tree) → IsBareTree u → n ≡ with_words m f.block (with_words_at (words_of m f.block) f.at (words u)) → TreeReplaces m n f.block f.at (tree_at m f) u
    bare_written u none is =
        let old : (q : ℕ) → times_beneath q (tree_at m f) ≡ 0 = λ q. trees_have_their_blocks m f (at_within ts m x r way f c i k.target) q ∙ k.bare q in
        subst (λ n. TreeReplaces m n f.block f.at (tree_at m f) u) (sym is) (record {
          live = live-insert_same m f.block _;
          written = words-insert_same m f.block _;
          pinned = pins-insert_same m f.block _;
          held = held-bare _ u none;
          taken = λ q some. let e = none q in absurd (omega arith);
          kept = λ q some. let e = none q in absurd (omega arith);
          given = λ q no some. let e = old q in absurd (omega arith);
          others = λ q ne no free. get-insert_other m f.block _ q ne;
        })

    pub emptied : Empties m n c i l → (v : Value) × Puts ts m n x r way f v
    emptied e =
        let v : Value = read_part f.form f.shape (value e.rest) in (
          v,
          tree_put ts m n x k.target.sound r way f k.target.found e.rest (subst (λ l. Fits l e.rest) (sym like) e.fits) (bounds_bare e.rest e.bare)
              (λ q. let z = e.bare q in omega arith)
              (bare_written e.rest e.bare (moved_from (λ c i. n ≡ with_words m c (with_words_at (words_of m c) i (words e.rest))) f c i k.target.block k.target.word e.is)) v refl,
        )
