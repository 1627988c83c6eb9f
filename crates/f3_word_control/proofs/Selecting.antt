-- A SELECT CASE begins.
use Rattle.std.proofs.Common.{◌≡◌, ◌∙◌, ◌+◌, List, [], ◌∷◌, refl, sym, ap, arith}
use Rattle.std.specs.Prelude.{Ok, Option, None, length}
use Rattle.f3_program.specs.declared.declarations.Constant.{Constant}
use Rattle.f3_program.specs.declared.declarations.Kind.{Kind}
use Rattle.f3_program.specs.declared.program.Program.{Program}
use Rattle.f3_desc.specs.declared.descriptor.Dim.{Dim}
use Rattle.f3_live_blocks.specs.Blocks.{Live}
use Rattle.f3_meaning_whole.specs.Value.{Value}
use Rattle.f3_meaning_whole.specs.Act.{selecting}
use Rattle.f3_code.specs.State.{Line}
use Rattle.f3_code.specs.State as s
use Rattle.f3_cell_kinds.specs.Types.{Scope, Told, CellType, Site}
use Rattle.f3_cell_kinds.specs.Types as cell
use Rattle.f3_cell_kinds.specs.Laws.{site_at}
use Rattle.f3_rooms.specs.Rooms.{Rooms, blocks_of}
use Rattle.f3_rooms.proofs.Framing.{times_append}
use Rattle.f3_word_cells.specs.declared.cell.Area.{Area}
use Rattle.f3_word_cells.specs.declared.cell.Cell.TheVariants as c
use Rattle.f3_word_cells.specs.declared.cell.Here.{Here}
use Rattle.f3_word_cells.specs.declared.state.State.{State}
use Rattle.f3_word_cells.specs.Areas.{IsBlock, value_in}
use Rattle.f3_word_cells.specs.Cells.{AreCells, IsHere, IsSelected}
use Rattle.f3_word_cells.specs.States.{AreKnown, IsOrderly, Stands, end_of, loose_blocks, own}
use Rattle.f3_word_cells.specs.Moves.{Pushed}
use Rattle.f3_word_cells.specs.Does.{GoesOn, Becomes}
use Rattle.f3_word_cells.proofs.Scalars.{Large, IsComposite, IsArray, large_block}
use Rattle.f3_word_cells.proofs.Amid.{Amid}
use Rattle.f3_word_cells.proofs.Moving.{Beneath, stands_so}
use Rattle.f3_word_cells.proofs.AtHand.{hand_told}
use Rattle.f3_word_cells.proofs.Places.{here_selecting}
use Rattle.f3_word_cells.proofs.Within.{here_stands}
use Rattle.f3_word_control.proofs.Lines.{begun_at, orderly_at, with_here}

-- what stands in a block is no scalar
none_of : (ds : List Dim) (v w : Value) → w ≡ v → Large ds v → IsSelected None w
none_of ds v w e (IsComposite vs none is) = rw (e, is) (refl, refl)
none_of ds v w e (IsArray ss vs same is) = rw (e, is) (refl, refl)

pub none_selected : (p : Program) (m : Live) (a : Area) (v : Value) → IsBlock p m a → v ≡ value_in p m a → IsSelected None v
none_selected p m a v h e = none_of a.elements.dims.items (value_in p m a) v e (large_block p m a h)

module _ (p : Program) (l : Line) (t : s.State) (m n : Live) (old : State) (x : Rooms) (st : Stands p m old x t) where
  pub selects : {mid : State} (new : State) (y : Option Constant) (v : Value) (below : List s.Cell) (k : Kind) (o : Scope) (rest : List CellType)
      → GoesOn p l t (with_here (t.pc + 1) (s.Outside t.here ∷ below) (selecting v t.here) t) [] → IsSelected y v
      → Amid p t n old mid x rest below t.world.store [] → mid.pc ≡ old.pc → (site_at p t.pc).scope ≡ Told o
      → site_at p (t.pc + 1) ≡ begun_at (site_at p t.pc) k o rest → end_of old.here.names ≡ length old.names.items.items
      → Pushed (c.Outside mid.here) (mid.pc + 1) (record mid { here = record mid.here { selected = y } }) new → Becomes p l t (Ok tt) n new
  selects {mid = mid} new y v below k o rest goes is amid line scope site last pushed =
      let names = old.names.items.items in
      let Rest = Beneath p n old t.frames in
      let here = here_stands p m (Beneath p m old t.frames) x names old.here t.here (own old) t.stack st.stack in
      let inner : Here = record old.here { selected = y } in
      let now : new.here ≡ inner = pushed.same.here ∙ ap (λ (h : Here). record h { selected = y }) amid.here in
      let within : IsHere p x names inner (selecting v t.here) = here_selecting p x names old.here t.here here y v is in
      let cells : AreCells p n Rest x names inner (selecting v t.here) (c.Outside old.here ∷ own mid) (s.Outside t.here ∷ below) = (tt, within, amid.cells) in
      let mine : own new ≡ c.Outside old.here ∷ own mid = pushed.cells ∙ ap (λ (h : Here). c.Outside h ∷ own mid) amid.here in
      let known : AreKnown p (cell.Outside o ∷ rest) (c.Outside old.here ∷ own mid) = (tt, amid.known) in
      let kinds : (site_at p (t.pc + 1)).cells ≡ cell.Outside o ∷ rest = ap (λ (z : Site). z.cells) site in
      let count = length names in
      let orderly : IsOrderly p (t.pc + 1) count inner (c.Outside old.here ∷ own mid) =
      orderly_at p (t.pc + 1) count inner (c.Outside old.here ∷ own mid) (begun_at (site_at p t.pc) k o rest) (cell.selecting k o) site refl
      (last, hand_told p t.pc count old.here (own mid) o scope amid.orderly) in
      record {
        next = with_here (t.pc + 1) (s.Outside t.here ∷ below) (selecting v t.here) t;
        rooms = x;
        goes = goes;
        stands = stands_so p m n old new x t (t.pc + 1) (s.Outside t.here ∷ below) (selecting v t.here) t.world st (record {
          same = record {
            names = pushed.same.names ∙ amid.same.names;
            callers = pushed.same.callers ∙ amid.same.callers;
            statics = pushed.same.statics ∙ amid.same.statics;
            blocks = pushed.same.blocks ∙ amid.same.blocks;
            levels = pushed.same.levels ∙ amid.same.levels;
            beneath = pushed.same.beneath ∙ amid.same.beneath;
            bottom = λ k. pushed.same.bottom (amid.same.bottom k);
          };
          line = ap (λ k. k + 1) (st.pc ∙ sym line) ∙ sym pushed.pc;
          sound = amid.sound;
          store = amid.is;
          known = rw (kinds, mine) known;
          cells = rw (now, mine) cells;
          orderly = rw (now, mine) orderly;
          tight = rw mine amid.tight;
          once = λ q. let one = amid.once q in let e = pushed.blocks q in let f = times_append q (blocks_of x) (loose_blocks new) in omega (arith, one, e, f);
          all = λ q alive. let some = amid.all q alive in let e = pushed.blocks q in let f = times_append q (blocks_of x) (loose_blocks new) in omega (arith, some, e, f);
          live = λ q some. amid.live q (let e = pushed.blocks q in omega (arith, some, e));
          unpinned = amid.unpinned;
        });
      }
