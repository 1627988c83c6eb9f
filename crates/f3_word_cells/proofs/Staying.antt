-- What cells are where the blocks of their values stay.
use Rattle.std.proofs.Common.{◌≡◌, ◌∙◌, ℕ, List, [], ◌∷◌, length, take, drop, sym, arith}
use Rattle.f3_program.specs.declared.program.Program.{Program}
use Rattle.f3_live_blocks.specs.Blocks.{Live}
use Rattle.f3_meaning_whole.specs.Value.{Value}
use Rattle.f3_meaning_whole.specs.Act as act
use Rattle.f3_meaning_whole.specs.Exec as exec
use Rattle.f3_code.specs.State as s
use Rattle.f3_rooms.specs.Held.{Empty}
use Rattle.f3_rooms.specs.Forms.{words_for}
use Rattle.f3_rooms.specs.Values.{object}
use Rattle.f3_rooms.specs.Rooms.{Rooms}
use Rattle.f3_rooms.specs.Laws.{before_level}
use Rattle.f3_rooms.proofs.Framing.{Kept, kept_fewer, kept_front, kept_back, kept_here, laid_stays, object_stays}
use Rattle.f3_word_cells.specs.declared.cell.Area.{Area}
use Rattle.f3_word_cells.specs.declared.cell.Datum.{Datum}
use Rattle.f3_word_cells.specs.declared.cell.Datum.TheVariants as datum
use Rattle.f3_word_cells.specs.declared.cell.Passed.{Passed}
use Rattle.f3_word_cells.specs.declared.cell.Passed.TheVariants as passed
use Rattle.f3_word_cells.specs.declared.cell.Association.{Association}
use Rattle.f3_word_cells.specs.declared.cell.Association.TheVariants as association
use Rattle.f3_word_cells.specs.declared.cell.Here.{Here}
use Rattle.f3_word_cells.specs.declared.cell.Cell.{Cell}
use Rattle.f3_word_cells.specs.declared.cell.Cell.TheVariants as c
use Rattle.f3_word_cells.specs.declared.state.Name.{Name}
use Rattle.f3_word_cells.specs.declared.state.Caller.{Caller}
use Rattle.f3_word_cells.specs.Areas.{IsBlock, IsDatum, shape_for, spans_of, value_in}
use Rattle.f3_word_cells.specs.Cells.{AreCells, IsAssociation, IsCell, IsPassed, IsWithin, here_beneath, here_under, names_under, rooms_under}
use Rattle.f3_word_cells.specs.States.{AreCallers, cell_blocks, cells_blocks, cells_from, datum_blocks}
use Rattle.f3_word_cells.proofs.Stacks.{cells_blocks_reverse, cells_blocks_split}

module _ (p : Program) (m n : Live) where
  -- ---- values

  pub value_stays : (a : Area) → Kept m n (a.elements.block ∷ []) → value_in p n a ≡ value_in p m a
  value_stays a kept =
      let ds = a.elements.dims.items in
      let s = shape_for p a.of in
      laid_stays m n (length ds) (spans_of ds) (words_for s) (object m s) (object n s) (object_stays m n s) a.elements.block 0 Empty
      (λ i l r. (kept_here m n a.elements.block [] kept).same i) (λ q lt. absurd (omega arith))

  pub block_stays : (a : Area) → Kept m n (a.elements.block ∷ []) → IsBlock p m a → IsBlock p n a
  block_stays a kept h =
      let steady = kept_here m n a.elements.block [] kept in
      record { offset = h.offset; large = h.large; contiguous = h.contiguous; live = steady.live h.live; words = steady.long ∙ h.words }

  pub datum_stays : (d : Datum) (v : Value) → Kept m n (datum_blocks d) → IsDatum p m d v → IsDatum p n d v
  datum_stays (datum.Scalar k) v kept is = is
  datum_stays (datum.Block a) v kept is = (block_stays a kept is.0, is.1 ∙ sym (value_stays a kept))

  -- ---- cells

  module _ (x : Rooms) (ns : List Name) where
    passed_stays : (a : Passed) (b : act.Passed) → Kept m n (cell_blocks (c.Argument a)) → IsPassed p x m ns a b → IsPassed p x n ns a b
    passed_stays (passed.Given k d) (act.Given i v) kept is = (is.0, datum_stays d v kept is.1)
    passed_stays (passed.Given k d) (act.Lent i r) kept is = absurd is
    passed_stays (passed.Lent k o) (act.Given i v) kept is = absurd is
    passed_stays (passed.Lent k o) (act.Lent i r) kept is = is

    association_stays : (a : Association) (b : exec.Association) → Kept m n (cell_blocks (c.Selector a)) → IsAssociation p x m ns a b
        → IsAssociation p x n ns a b
    association_stays (association.Holds of d) (exec.Holds of' v) kept is = (is.0, datum_stays d v kept is.1)
    association_stays (association.Holds of d) (exec.Means r) kept is = absurd is
    association_stays (association.Means o) (exec.Holds of v) kept is = absurd is
    association_stays (association.Means o) (exec.Means r) kept is = is

    pub cell_stays : (a : Cell) (b : s.Cell) → Kept m n (cell_blocks a) → IsCell p x m ns a b → IsCell p x n ns a b
    cell_stays (c.Datum d) (s.Datum v) kept is = datum_stays d v kept is
    cell_stays (c.Datum d) b kept is = absurd is
    cell_stays (c.Object o) (s.Object r) kept is = is
    cell_stays (c.Object o) b kept is = absurd is
    cell_stays (c.Each o e) (s.Object r) kept is = is
    cell_stays (c.Each o e) b kept is = absurd is
    cell_stays (c.Argument a) (s.Argument b) kept is = passed_stays a b kept is
    cell_stays (c.Argument a) b kept is = absurd is
    cell_stays (c.Choice a) (s.Choice b) kept is = is
    cell_stays (c.Choice a) b kept is = absurd is
    cell_stays (c.Bound z) (s.Bound y) kept is = is
    cell_stays (c.Bound z) b kept is = absurd is
    cell_stays (c.Bounds ds) (s.Bounds ss) kept is = is
    cell_stays (c.Bounds ds) b kept is = absurd is
    cell_stays (c.Turns turns step) (s.Turns k z) kept is = is
    cell_stays (c.Turns turns step) b kept is = absurd is
    cell_stays (c.Objects range) (s.Objects rs) kept is = is
    cell_stays (c.Objects range) b kept is = absurd is
    cell_stays (c.Selector a) (s.Selector b) kept is = association_stays a b kept is
    cell_stays (c.Selector a) b kept is = absurd is
    cell_stays (c.Level level range) (s.Level k rs) kept is = is
    cell_stays (c.Level level range) b kept is = absurd is
    cell_stays (c.Outside h) (s.Outside here) kept is = is
    cell_stays (c.Outside h) b kept is = absurd is
    cell_stays (c.Going f) (s.Going g) kept is = is
    cell_stays (c.Going f) b kept is = absurd is

  -- where statements are executed tells of no value
  within_stays : (x : Rooms) (ns : List Name) (h : Here) (here : act.Here) (a : Cell) → IsWithin p m x ns h here a → IsWithin p n x ns h here a
  within_stays x ns h here (c.Datum d) is = is
  within_stays x ns h here (c.Object d) is = is
  within_stays x ns h here (c.Each d e) is = is
  within_stays x ns h here (c.Argument d) is = is
  within_stays x ns h here (c.Choice d) is = is
  within_stays x ns h here (c.Bound d) is = is
  within_stays x ns h here (c.Bounds d) is = is
  within_stays x ns h here (c.Turns d e) is = is
  within_stays x ns h here (c.Objects d) is = is
  within_stays x ns h here (c.Selector d) is = is
  within_stays x ns h here (c.Level d e) is = is
  within_stays x ns h here (c.Outside d) is = is
  within_stays x ns h here (c.Going d) is = is

  -- and what is beneath the cells
  pub cells_stay : (Rest Same : Rooms → List Name → Type 0) → ((x : Rooms) (ns : List Name) → Rest x ns → Same x ns)
      → (x : Rooms) (ns : List Name) (h : Here) (here : act.Here) (cs : List Cell) (bs : List s.Cell) → Kept m n (cells_blocks cs)
      → AreCells p m Rest x ns h here cs bs → AreCells p n Same x ns h here cs bs
  cells_stay Rest Same f x ns h here [] [] kept are = (are.0, f x ns are.1)
  cells_stay Rest Same f x ns h here [] (b ∷ bs) kept are = absurd are
  cells_stay Rest Same f x ns h here (a ∷ cs) [] kept are = absurd are
  cells_stay Rest Same f x ns h here (a ∷ cs) (b ∷ bs) kept are = (
    cell_stays x ns a b (kept_front m n (cell_blocks a) (cells_blocks cs) kept) are.0,
    within_stays x ns h here a are.1,
    cells_stay Rest Same f (rooms_under a x) (names_under a ns) (here_under a h) (here_beneath a b here) cs bs
        (kept_back m n (cell_blocks a) (cells_blocks cs) kept) are.2,
  )

  -- ---- callers

  kept_taken : (k : ℕ) (cs : List Cell) → Kept m n (cells_blocks cs) → Kept m n (cells_blocks (take k cs))
  kept_taken k cs = kept_fewer m n (cells_blocks cs) (cells_blocks (take k cs)) (λ q. let e = cells_blocks_split q k cs in omega arith)

  kept_left : (k : ℕ) (cs : List Cell) → Kept m n (cells_blocks cs) → Kept m n (cells_blocks (cells_from k cs))
  kept_left k cs = kept_fewer m n (cells_blocks cs) (cells_blocks (cells_from k cs))
      (λ q. let e = cells_blocks_split q k cs in let f = cells_blocks_reverse q (drop k cs) in omega arith)

  pub callers_stay : (cs : List Cell) (fs : List Caller) (gs : List s.Frame) → Kept m n (cells_blocks cs) → (x : Rooms) (ns : List Name)
      → AreCallers p m cs fs gs x ns → AreCallers p n cs fs gs x ns
  callers_stay cs [] [] kept x ns h = h
  callers_stay cs [] (g ∷ gs) kept x ns h = absurd h
  callers_stay cs (f ∷ fs) [] kept x ns h = absurd h
  callers_stay cs (f ∷ fs) (g ∷ gs) kept x ns h = (
    h.0,
    cells_stay (AreCallers p m (take f.base cs) fs gs) (AreCallers p n (take f.base cs) fs gs) (callers_stay (take f.base cs) fs gs (kept_taken f.base cs kept))
        (before_level x f.level) (take f.dummies.from ns) f.here g.here (cells_from f.base cs) g.stack (kept_left f.base cs kept) h.1,
  )
