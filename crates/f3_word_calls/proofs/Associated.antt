-- The objects of an ASSOCIATE that was left.
use Rattle.std.proofs.Common.{◌≡◌, ◌∙◌, ℕ, ◌+◌, List, [], ◌∷◌, length, reverse, sym, ap, subst, arith}
use Rattle.std.specs.Prelude.{Ok, None, Some, slice_get}
use Rattle.f3_program.specs.declared.declarations.Kind.{Kind}
use Rattle.f3_program.specs.declared.program.Program.{Program}
use Rattle.f3_live_blocks.specs.Blocks.{Live}
use Rattle.f3_meaning_whole.specs.Exec.{Flow}
use Rattle.f3_meaning_whole.specs.Reference.{Reference}
use Rattle.f3_code.specs.declared.instruction.Instruction.TheVariants as i
use Rattle.f3_code.specs.Heap.{with_answers}
use Rattle.f3_code.specs.State.{Line, Goes}
use Rattle.f3_code.specs.State as s
use Rattle.f3_cell_kinds.specs.Types.{CellType}
use Rattle.f3_cell_kinds.specs.Types as cell
use Rattle.f3_cell_kinds.specs.Laws.{site_at}
use Rattle.f3_cells.specs.declared.cell.Flow.{Flow as Way}
use Rattle.f3_rooms.specs.Rooms.{Rooms}
use Rattle.f3_word_cells.specs.declared.cell.Range.{Range}
use Rattle.f3_word_cells.specs.declared.cell.Cell.TheVariants as c
use Rattle.f3_word_cells.specs.declared.state.Name.{Name}
use Rattle.f3_word_cells.specs.declared.state.State.{State}
use Rattle.f3_word_cells.specs.Cells.{AreCells}
use Rattle.f3_word_cells.specs.Scenes.{code_of}
use Rattle.f3_word_cells.specs.States.{AreAtHand, AreCalled, AreKnown, AreTight, Stands, beneath, own}
use Rattle.f3_word_cells.specs.Moves.{IsSame, Popped, Pushed}
use Rattle.f3_word_cells.specs.Does.{Becomes, IsTold}
use Rattle.f3_word_cells.proofs.OnTop.{line_kinds, of_going, of_level, two_on_top}
use Rattle.f3_word_cells.proofs.Moving.{Beneath, moved_to, stands_moved}
use Rattle.f3_word_cells.proofs.Orderly.{IsAfter, after_way, orderly_so}
use Rattle.f3_word_cells.proofs.Lines.{line_goes}
use Rattle.f3_word_calls.specs.Taken.{Took, level_cell}
use Rattle.f3_word_calls.proofs.Tops.{going_cell, level_is, top_is}

pub same_through : {a b d : State} → IsSame a b → IsSame b d → IsSame a d
same_through g h = record {
  base = h.base ∙ g.base;
  here = h.here ∙ g.here;
  names = h.names ∙ g.names;
  callers = h.callers ∙ g.callers;
  statics = h.statics ∙ g.statics;
  blocks = h.blocks ∙ g.blocks;
  levels = h.levels ∙ g.levels;
  room = h.room ∙ g.room;
  beneath = h.beneath ∙ g.beneath;
  bottom = λ k. h.bottom (g.bottom k);
}

module _ (p : Program) (live : Live) (old : State) (x : Rooms) (t : s.State) (l : Line) (told : IsTold p t)
    (there : slice_get (code_of p).lines t.pc ≡ Some l) (is : l.act ≡ i.Associated) (st : Stands p live old x t) where
  -- what stands on top
  pub record AtLeft : Type 0 where
    pub flow : Flow
    pub level : ℕ
    pub objects : List Reference
    pub below : List s.Cell
    pub split : t.stack ≡ s.Going flow ∷ s.Level level objects ∷ below
    pub others : List Kind
    pub rest : List CellType
    pub kinds : (site_at p t.pc).cells ≡ cell.Going ∷ cell.Level others ∷ rest
    pub next : IsAfter p t.pc (t.pc + 1) (cell.Objects others ∷ cell.Going ∷ cell.Level others ∷ rest)

  pub at_left : AtLeft
  at_left =
      let lead = line_kinds p t l i.Associated told there is in
      let two = two_on_top p t cell.Going (cell.Level lead.0) lead.1.rest told lead.1.before in
      let going = of_going p.types.items two.cell two.is in
      let level = of_level p.types.items lead.0 two.next two.next_is in
      record {
        flow = going.0;
        level = level.0;
        objects = level.1;
        below = two.below;
        split = two.split ∙ ap (λ b. b ∷ two.next ∷ two.below) going.1 ∙ ap (λ b. s.Going going.0 ∷ b ∷ two.below) level.2;
        others = lead.0;
        rest = lead.1.rest;
        kinds = lead.1.before;
        next = after_way p t.pc (t.pc + 1) (cell.Objects lead.0 ∷ cell.Going ∷ cell.Level lead.0 ∷ []) lead.1.rest lead.1.next;
      }

  abbrev Rest : Rooms → List Name → Type 0
  Rest = Beneath p live old t.frames

  abbrev ns : List Name
  ns = old.names.items.items

  old_cells : AreCells p live Rest x ns old.here t.here (own old) (s.Going at_left.flow ∷ s.Level at_left.level at_left.objects ∷ at_left.below)
  old_cells = subst (λ bs. AreCells p live Rest x ns old.here t.here (own old) bs) at_left.split st.stack

  pub some_going : (new : State) → Took c.Going None old new → ⊥
  some_going new none =
      let top = top_is p live x Rest ns old.here t.here (own old) _ _ old_cells in
      let cell = going_cell p live x ns top.0 _ top.3 in
      none cell.0 top.1 (top.2 ∙ ap (λ a. a ∷ top.1) cell.1)

  module _ (way : Way) (one : State) (popped : Popped (c.Going way) old one) where
    one_cells : AreCells p live Rest x ns old.here t.here (own one) (s.Level at_left.level at_left.objects ∷ at_left.below)
    one_cells =
        let cells : AreCells p live Rest x ns old.here t.here (c.Going way ∷ own one) (s.Going at_left.flow ∷ s.Level at_left.level at_left.objects ∷ at_left.below) =
        subst (λ zs. AreCells p live Rest x ns old.here t.here zs (s.Going at_left.flow ∷ s.Level at_left.level at_left.objects ∷ at_left.below)) popped.cells old_cells in
        cells.2

    pub some_level : (new : State) → Took level_cell None one new → ⊥
    some_level new none =
        let top = top_is p live x Rest ns old.here t.here (own one) _ _ one_cells in
        let cell = level_is p live x ns top.0 _ _ top.3 in
        none cell.0 top.1 (top.2 ∙ ap (λ a. a ∷ top.1) cell.1)

    module _ (k : ℕ) (range : Range) (two : State) (taken : Popped (c.Level k range) one two) (three four new : State)
        (first : Pushed (c.Level k range) two.pc two three) (second : Pushed (c.Going way) three.pc three four)
        (third : Pushed (c.Objects range) (four.pc + 1) four new) where
      pub associated_do : Becomes p l t (Ok tt) live new
      associated_do =
          let level_cells : AreCells p live Rest x ns old.here t.here (c.Level k range ∷ own two) (s.Level at_left.level at_left.objects ∷ at_left.below) =
          subst (λ zs. AreCells p live Rest x ns old.here t.here zs (s.Level at_left.level at_left.objects ∷ at_left.below)) taken.cells one_cells in
          let own_old : own old ≡ c.Going way ∷ c.Level k range ∷ own two = popped.cells ∙ ap (λ zs. c.Going way ∷ zs) taken.cells in
          let own_new : own new ≡ c.Objects range ∷ own old =
          third.cells ∙ ap (λ zs. c.Objects range ∷ zs) (second.cells ∙ ap (λ zs. c.Going way ∷ zs) first.cells ∙ sym own_old) in
          let same : IsSame old new = same_through popped.same (same_through taken.same (same_through first.same (same_through second.same third.same))) in
          let stack : List s.Cell = s.Objects at_left.objects ∷ t.stack in
          let known : AreKnown p (site_at p (t.pc + 1)).cells (own new) =
          subst (λ ks. AreKnown p ks (own new)) (sym at_left.next.cells)
          (subst (λ zs. AreKnown p (cell.Objects at_left.others ∷ cell.Going ∷ cell.Level at_left.others ∷ at_left.rest) zs) (sym own_new)
          (tt, subst (λ ks. AreKnown p ks (own old)) at_left.kinds st.known)) in
          record {
            next = moved_to t (t.pc + 1) stack t.here t.world;
            rooms = x;
            goes = line_goes p l t i.Associated (s.Going at_left.flow ∷ s.Level at_left.level at_left.objects ∷ at_left.below)
                (moved_to t (t.pc + 1) stack t.here t.world) [] tt [] is at_left.split
                (λ rest. ap (λ bs. Goes [] (with_answers rest (moved_to t (t.pc + 1) (s.Objects at_left.objects ∷ bs) t.here t.world))) (sym at_left.split));
            stands = stands_moved p live old new x t (t.pc + 1) stack st same
                (ap (λ j. j + 1) (st.pc ∙ sym (second.pc ∙ first.pc ∙ taken.pc ∙ popped.pc)) ∙ sym third.pc) known
                (subst (λ zs. AreCells p live Rest x ns old.here t.here zs stack) (sym own_new) (level_cells.0.1, tt, st.stack))
                (orderly_so p t.pc (t.pc + 1) (length ns) old.here old.here (own old) (own new) _ at_left.next
                (λ are. subst (λ zs. AreAtHand (length ns) old.here zs) (sym own_new) are) st.orderly)
                (subst (λ zs. AreTight (AreCalled p (beneath old) (reverse old.callers.items.items)) x.levels (length ns) zs) (sym own_new) st.tight)
                (λ q. let a = popped.blocks q in let b = taken.blocks q in let d = first.blocks q in let e = second.blocks q in let f = third.blocks q in
                omega (arith, a, b, d, e, f));
          }
