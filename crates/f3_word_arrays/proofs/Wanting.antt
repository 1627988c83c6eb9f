-- How many words the values of an array constructor take.
use Rattle.std.proofs.Common.{◌≡◌, ◌∙◌, ℕ, ◌+◌, ◌*◌, true, List, [], ◌∷◌, ◌++◌, length, map, get_or, sym, ap, subst, arith}
use Rattle.std.specs.Prelude.{ℤ, pos, take}
use Rattle.std.proofs.Math.Seq.{take-append_seam}
use Rattle.std.proofs.lemmas.List.{length-map}
use Rattle.std.specs.FinMap.{empty}
use Rattle.f3_program.specs.declared.declarations.Base.{Base}
use Rattle.f3_program.specs.declared.program.Program.{Program}
use Rattle.f3_live_blocks.specs.Blocks.{Live, with_words}
use Rattle.f3_live_blocks.proofs.Laws.{words-insert_same}
use Rattle.f3_meaning_whole.specs.Act as m
use Rattle.f3_meaning_whole.specs.Formed as formed
use Rattle.f3_meaning_whole.specs.Shape.{Shape}
use Rattle.f3_meaning_whole.specs.Value.{Value}
use Rattle.f3_code.specs.Account.{words}
use Rattle.f3_code.specs.State as s
use Rattle.f3_code.specs.Wants.{given_words}
use Rattle.f3_cell_kinds.specs.Types.{CellType}
use Rattle.f3_cell_kinds.specs.Types as cell
use Rattle.f3_rooms.specs.Flat.{is_flat}
use Rattle.f3_rooms.specs.Forms.{words_for}
use Rattle.f3_rooms.specs.Held.{Empty}
use Rattle.f3_rooms.specs.Rooms.{Rooms}
use Rattle.f3_room_frames.proofs.Flat.{flat_words}
use Rattle.f3_word_cells.specs.declared.cell.Cell.{Cell}
use Rattle.f3_word_cells.specs.declared.cell.Here.{Here}
use Rattle.f3_word_cells.specs.declared.state.Name.{Name}
use Rattle.f3_word_cells.specs.declared.state.State.{State}
use Rattle.f3_word_cells.specs.Areas.{shape_for, types_of}
use Rattle.f3_word_cells.specs.Cells.{AreCells}
use Rattle.f3_word_cells.specs.Does.{IsTold}
use Rattle.f3_word_cells.specs.States.{AreKnown, IsKnown, Stands, own}
use Rattle.f3_word_cells.proofs.Amid.{amid_first}
use Rattle.f3_word_cells.proofs.Flat.{flat_under}
use Rattle.f3_word_cells.proofs.Moving.{Beneath}
use Rattle.f3_word_cells.proofs.Wording.{flat_shape}
use Rattle.f3_word_arrays.proofs.Elements.{argument-cell, has-words}
use Rattle.f3_word_arrays.proofs.Given.{AreItems, OnArray}
use Rattle.f3_word_arrays.proofs.Words.{Shows}

-- a value that some words show takes as many as its type says
shown-words : (y : Shape) → is_flat y ≡ true → (ws : List ℤ) (v : Value) → Shows y ws v → words v ≡ words_for y
shown-words y flat ws v shows =
    let here : Live = with_words empty 0 ws in
    let is = shows here 0 0 (λ j lt. ap (λ us. get_or us (0 + j) (pos 0)) (words-insert_same empty 0 _) ∙ ap (λ k. get_or ws k (pos 0)) (let e : 0 + j ≡ j = omega arith in e)) in
    sym (ap words is) ∙ flat_words here y flat 0 0 Empty

module _ (p : Program) (live : Live) (of : Base) (flat : is_flat (shape_for p of) ≡ true) (Rest : Rooms → List Name → Type 0) where
  items-words : (x : Rooms) (ns : List Name) (w : Here) (here : m.Here) (ks : List CellType) (below : List s.Cell) (gs : List formed.Given) (ps : List m.Passed) (zs : List Cell) → AreItems p of gs ps
      → AreKnown p (map cell.Argument gs ++ ks) zs → AreCells p live Rest x ns w here zs (map s.Argument ps ++ below) → given_words (map s.Argument ps) ≡ length ps * words_for (shape_for p of)
  items-words x ns w here ks below [] [] zs items known are = omega arith
  items-words x ns w here ks below [] (q ∷ ps) zs items known are = absurd items
  items-words x ns w here ks below (g ∷ gs) [] zs items known are = absurd items
  items-words x ns w here ks below (g ∷ gs) (m.Lent j r ∷ ps) zs items known are = absurd items
  items-words x ns w here ks below (g ∷ gs) (m.Given j v ∷ ps) [] items known are = absurd are
  items-words x ns w here ks below (g ∷ gs) (m.Given j v ∷ ps) (z ∷ zs) items known are =
      let one = argument-cell p x live ns z j v are.0 in
      let told = has-words p live of g one.1 v items.0 one.3 (subst (IsKnown p (cell.Argument g)) one.2 known.0) in
      let first = shown-words (shape_for p of) flat _ v told.shows in
      let beneath = flat_under p live (λ y ms k h. AreCells p live Rest y ms k h zs (map s.Argument ps ++ below)) x ns w here z (s.Argument (m.Given j v)) are.0 tt are.2 in
      let more = items-words x ns w here ks below gs ps zs items.1 known.1 beneath in
      omega (arith, first, more)

-- so many as the line asks for
pub given-wanted : (p : Program) (t : s.State) (n : ℕ) (h : OnArray p t n) (old : State) (x : Rooms) (live : Live) → IsTold p t → Stands p live old x t
    → given_words (take n t.stack) ≡ n * words_for (shape_for p h.of)
given-wanted p t n h old x live told st =
    let amid = amid_first p t live old x (map cell.Argument h.givens ++ h.rest) (map s.Argument h.items ++ h.below) st h.kinds h.split in
    let long : length (map s.Argument h.items) ≡ n = length-map h.items s.Argument ∙ h.many in
    let top : take n t.stack ≡ map s.Argument h.items = ap (take n) h.split ∙ ap (λ k. take k (map s.Argument h.items ++ h.below)) (sym long) ∙ take-append_seam (map s.Argument h.items) h.below in
    ap given_words top
    ∙ items-words p live h.of (flat_shape (types_of p) told.plain.types h.of) (Beneath p live old t.frames) x old.names.items.items old.here t.here h.rest h.below h.givens h.items (own old) h.are amid.known amid.cells
    ∙ ap (λ k. k * words_for (shape_for p h.of)) h.many
