-- A construct is left.
use Rattle.std.proofs.Common.{inl, ◌≡◌, ◌∙◌, ℕ, ◌+◌, List, [], ◌∷◌, refl, sym, subst, ap, arith}
use Rattle.std.specs.Prelude.{⊤, Ok, Err, Result}
use Rattle.f3_program.specs.declared.program.Program.{Program}
use Rattle.f3_live_blocks.specs.Blocks.{Live}
use Rattle.f3_meaning_whole.specs.Act as meaning
use Rattle.f3_meaning_whole.specs.Exec as exec
use Rattle.f3_code.specs.State.{Line}
use Rattle.f3_code.specs.State as s
use Rattle.f3_cells.specs.declared.cell.Flow.{Flow}
use Rattle.f3_cells.specs.Cells.{flow_of}
use Rattle.f3_cell_kinds.specs.Types.{Scope, Told, CellType, Site}
use Rattle.f3_cell_kinds.specs.Types as cell
use Rattle.f3_cell_kinds.specs.Laws.{site_at}
use Rattle.f3_rooms.specs.Held.{times}
use Rattle.f3_rooms.specs.Rooms.{Rooms}
use Rattle.f3_word_cells.specs.declared.cell.Cell.{Cell}
use Rattle.f3_word_cells.specs.declared.cell.Cell.TheVariants as c
use Rattle.f3_word_cells.specs.declared.cell.Here.{Here}
use Rattle.f3_word_cells.specs.declared.state.Name.{Name}
use Rattle.f3_word_cells.specs.declared.state.State.{State}
use Rattle.f3_word_cells.specs.declared.state.Stop.{Stop}
use Rattle.f3_word_cells.specs.declared.state.Stop.TheVariants as stop
use Rattle.f3_word_cells.specs.Cells.{AreCells}
use Rattle.f3_word_cells.specs.States.{AreAtHand, AreCalled, AreKnown, AreTight, IsOrderly, Stands, beneath, cells_blocks, own}
use Rattle.f3_word_cells.specs.Scenes.{code_of}
use Rattle.f3_word_cells.specs.Moves.{Popped, Pushed, WentAhead}
use Rattle.f3_word_cells.specs.Does.{GoesOn, Becomes}
use Rattle.f3_word_cells.proofs.Moving.{Beneath, IsSameElse, stands_at}
use Rattle.f3_word_cells.proofs.AtHand.{hand_told}
use Rattle.f3_word_cells.proofs.Lines.{lost_ahead}
use Rattle.f3_word_control.proofs.Lines.{left_to, orderly_at, with_here}
use Rattle.std.specs.Prelude.{length, reverse}

module _ (p : Program) (l : Line) (t : s.State) (m : Live) (old : State) (x : Rooms) (st : Stands p m old x t) where
  abbrev Rest : Rooms → List Name → Type 0
  Rest = Beneath p m old t.frames

  names : List Name
  names = old.names.items.items

  -- what was around it stands on top
  around : (ns : List Name) (now here : Here) (this : meaning.Here) (h : Here) (cs : List Cell) (bs : List s.Cell) → AreCells p m Rest x ns now this (c.Outside h ∷ cs) bs
      → (outer : meaning.Here) × (below : List s.Cell) × (bs ≡ s.Outside outer ∷ below) × AreCells p m Rest x ns h outer cs below
  around ns now here this h cs [] is = absurd is
  around ns now here this h cs (s.Outside outer ∷ below) is = (outer, below, refl, is.2)
  around ns now here this h cs (b ∷ below) is = absurd is.0

  pub outside_of : {mid : State} (h : Here) → Popped (c.Outside h) old mid
      → (outer : meaning.Here) × (below : List s.Cell) × (t.stack ≡ s.Outside outer ∷ below) × AreCells p m Rest x old.names.items.items h outer (own mid) below
  outside_of {mid = mid} h popped =
      around old.names.items.items old.here old.here t.here h (own mid) t.stack
      (subst (λ (cs : List Cell). AreCells p m Rest x old.names.items.items old.here t.here cs t.stack) popped.cells st.stack)

  same_through : {mid then new : State} {h : Here} {f : Flow} {pc : ℕ} → Popped (c.Outside h) old mid → Pushed (c.Going f) mid.pc (record mid { here = h }) then
      → new ≡ record then { pc = pc } → IsSameElse old new
  same_through popped pushed e = rw e (record {
    names = pushed.same.names ∙ popped.same.names;
    callers = pushed.same.callers ∙ popped.same.callers;
    statics = pushed.same.statics ∙ popped.same.statics;
    blocks = pushed.same.blocks ∙ popped.same.blocks;
    levels = pushed.same.levels ∙ popped.same.levels;
    beneath = pushed.same.beneath ∙ popped.same.beneath;
    bottom = λ k. pushed.same.bottom (popped.same.bottom k);
  })

  -- so far on, with how it was left on top
  pub left_ahead : {mid then : State} (new : State) (h : Here) (f : Flow) (g : exec.Flow) (o : Scope) (rest : List CellType) (d total : ℕ) (r : Result ⊤ Stop) (outer : meaning.Here) (below : List s.Cell)
      → (site_at p t.pc).cells ≡ cell.Outside o ∷ rest → (inner : Scope) × ((site_at p t.pc).scope ≡ Told inner)
      → site_at p (t.pc + 1 + d) ≡ left_to (site_at p t.pc) o rest
      → Popped (c.Outside h) old mid → Pushed (c.Going f) mid.pc (record mid { here = h }) then → g ≡ flow_of f
      → AreCells p m Rest x old.names.items.items h outer (own mid) below → length (code_of p).lines ≡ total → WentAhead d total r then new
      → GoesOn p l t (with_here (t.pc + 1 + d) (s.Going g ∷ below) outer t) [] → Becomes p l t r m new
  left_ahead {mid = mid} {then = then} new h f g o rest d total (Ok done) outer below kinds scope site popped pushed flow cells size went goes =
      let at : then.pc ≡ t.pc = pushed.pc ∙ popped.pc ∙ sym st.pc in
      let e : new ≡ record then { pc = then.pc + 1 + d } = went.0 in
      let here : new.here ≡ h = ap (λ (w : State). w.here) e ∙ pushed.same.here in
      let mine : own new ≡ c.Going f ∷ own mid = ap (λ (w : State). own w) e ∙ pushed.cells in
      let known : AreKnown p (cell.Going ∷ rest) (c.Going f ∷ own mid) =
      (tt, (subst (λ (cs : List Cell). AreKnown p (cell.Outside o ∷ rest) cs) popped.cells (subst (λ (ks : List CellType). AreKnown p ks (own old)) kinds st.known)).1) in
      let far : (site_at p (t.pc + 1 + d)).cells ≡ cell.Going ∷ rest = ap (λ (z : Site). z.cells) site in
      let n = length old.names.items.items in
      let hand : AreAtHand n old.here (c.Outside h ∷ own mid) =
      subst (λ (cs : List Cell). AreAtHand n old.here cs) popped.cells (hand_told p t.pc n old.here (own old) scope.0 scope.1 st.orderly) in
      let orderly : IsOrderly p (t.pc + 1 + d) n h (c.Going f ∷ own mid) =
      orderly_at p (t.pc + 1 + d) n h (c.Going f ∷ own mid) (left_to (site_at p t.pc) o rest) o site refl hand.1 in
      let tight : AreTight (AreCalled p (beneath old) (reverse old.callers.items.items)) x.levels n (c.Outside h ∷ own mid) =
      subst (λ (cs : List Cell). AreTight (AreCalled p (beneath old) (reverse old.callers.items.items)) x.levels n cs) popped.cells st.tight in
      record {
        next = with_here (t.pc + 1 + d) (s.Going g ∷ below) outer t;
        rooms = x;
        goes = goes;
        stands = stands_at p m old new x t (t.pc + 1 + d) (s.Going g ∷ below) outer st (same_through popped pushed e)
            (ap (λ k. k + 1 + d) (sym at) ∙ sym (ap (λ (w : State). w.pc) e))
            (rw (far, mine) known)
            (rw (here, mine) (flow, tt, cells))
            (rw (here, mine) orderly)
            (rw mine tight)
            (λ q. let a = popped.blocks q in let b = pushed.blocks q in
            let k : times q (cells_blocks new.cells.items.items) ≡ times q (cells_blocks then.cells.items.items) = ap (λ (w : State). times q (cells_blocks w.cells.items.items)) e in
            omega (arith, a, b, k));
      }
  left_ahead {then = then} new h f g o rest d total (Err stop.Lost) outer below kinds scope site popped pushed flow cells size went goes =
      let at : then.pc ≡ t.pc = pushed.pc ∙ popped.pc ∙ sym st.pc in
      inl (lost_ahead p l t (with_here (t.pc + 1 + d) (s.Going g ∷ below) outer t) goes (let past = went.1 in omega (arith, past, at, size)))
  left_ahead new h f g o rest d total (Err stop.Done) outer below kinds scope site popped pushed flow cells size went goes = absurd went
  left_ahead new h f g o rest d total (Err (stop.Stopped i)) outer below kinds scope site popped pushed flow cells size went goes = absurd went
  left_ahead new h f g o rest d total (Err (stop.Failed i)) outer below kinds scope site popped pushed flow cells size went goes = absurd went
  left_ahead new h f g o rest d total (Err stop.Forbidden) outer below kinds scope site popped pushed flow cells size went goes = absurd went
  left_ahead new h f g o rest d total (Err stop.Refused) outer below kinds scope site popped pushed flow cells size went goes = absurd went
  left_ahead new h f g o rest d total (Err stop.Memory) outer below kinds scope site popped pushed flow cells size went goes = absurd went
