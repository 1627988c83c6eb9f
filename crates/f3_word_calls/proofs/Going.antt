-- Where lines lead.
use Rattle.std.proofs.Common.{◌≡◌, ◌∙◌, ◌+◌, List, [], ◌∷◌, ◌++◌, sym, ap}
use Rattle.std.specs.Prelude.{Ok}
use Rattle.f3_program.specs.declared.program.Program.{Program}
use Rattle.f3_live_blocks.specs.Blocks.{Live}
use Rattle.f3_code.specs.State.{Line}
use Rattle.f3_code.specs.State as s
use Rattle.f3_cell_kinds.specs.Types.{CellType}
use Rattle.f3_rooms.specs.Rooms.{Rooms}
use Rattle.f3_word_cells.specs.declared.cell.Cell.{Cell}
use Rattle.f3_word_cells.specs.declared.state.State.{State}
use Rattle.f3_word_cells.specs.Cells.{IsCell}
use Rattle.f3_word_cells.specs.States.{IsKnown, Stands, cell_blocks}
use Rattle.f3_word_cells.specs.Moves.{Pushed}
use Rattle.f3_word_cells.specs.Does.{Becomes, GoesOn}
use Rattle.f3_word_cells.proofs.Flat.{IsFlat}
use Rattle.f3_word_cells.proofs.Moving.{moved_to}
use Rattle.f3_word_cells.proofs.Orderly.{IsAfter}
use Rattle.f3_word_cells.proofs.Amid.{Amid, amid_last, amid_pushed}

module _ (p : Program) (live : Live) (old : State) (x : Rooms) (t : s.State) (l : Line) (st : Stands p live old x t) where
  -- the next line, with one more cell
  pub goes_with : (mid new : State) (k : CellType) (ks : List CellType) (b : s.Cell) (below : List s.Cell) (c : Cell)
      → Amid p t live old mid x ks below t.world.store (cell_blocks c ++ []) → mid.pc ≡ old.pc → Pushed c (mid.pc + 1) mid new
      → IsFlat b → IsCell p x live old.names.items.items c b → IsKnown p k c → IsAfter p t.pc (t.pc + 1) (k ∷ ks)
      → GoesOn p l t (moved_to t (t.pc + 1) (b ∷ below) t.here t.world) [] → Becomes p l t (Ok tt) live new
  goes_with mid new k ks b below c amid line pushed flat is known kinds goes =
      let there = amid_pushed p t live old mid new x k ks b below t.world.store [] c (mid.pc + 1) amid pushed flat is known in
      record {
        next = moved_to t (t.pc + 1) (b ∷ below) t.here t.world;
        rooms = x;
        goes = goes;
        stands = amid_last p t live live old new x (k ∷ ks) (t.pc + 1) (b ∷ below) t.world st there kinds
            (ap (λ n. n + 1) (st.pc ∙ sym line) ∙ sym pushed.pc);
      }
