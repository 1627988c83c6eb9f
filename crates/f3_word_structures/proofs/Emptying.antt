-- The arguments go, as a body takes them.
use Rattle.std.proofs.Common.{◌≡◌, ◌∙◌, ℕ, ◌+◌, ◌<◌, ◌≤◌, ℤ, List, [], ◌∷◌, length, refl, arith}
use Rattle.std.specs.Prelude.{None, Some, Err, slice_get}
use Rattle.f3_program.specs.declared.program.Program.{Program}
use Rattle.f3_live_blocks.specs.Blocks.{Live}
use Rattle.f3_code.specs.declared.instruction.Instruction.TheVariants as i
use Rattle.f3_code.specs.State.{Line}
use Rattle.f3_code.specs.State as s
use Rattle.f3_rooms.specs.Laws.{without}
use Rattle.f3_rooms.specs.Rooms.{Rooms}
use Rattle.f3_word_cells.specs.declared.cell.Cell.{Cell}
use Rattle.f3_word_cells.specs.declared.state.State.{State}
use Rattle.f3_word_cells.specs.declared.state.Stop.TheVariants as stop
use Rattle.f3_word_cells.specs.Does.{DoesOver, IsTold, Keeps}
use Rattle.f3_word_cells.specs.Free.{AreFree}
use Rattle.f3_word_cells.specs.Moves.{IsSame, Popped, PoppedOr}
use Rattle.f3_word_cells.specs.Scenes.{code_of}
use Rattle.f3_word_cells.specs.States.{Stands, cell_blocks}
use Rattle.f3_word_structures.proofs.Given.{on-structure}
use Rattle.f3_word_structures.proofs.Popping.{Went, some-left, went-free, went-more}

pub keeps-same : (old mid now : State) → Keeps old mid → IsSame mid now → Keeps old now
keeps-same old mid now a b = record {
  cells = b.room ∙ a.cells;
  names = b.names ∙ a.names;
  callers = b.callers ∙ a.callers;
  blocks = b.blocks ∙ a.blocks;
  levels = b.levels ∙ a.levels;
}

module _ (p : Program) (m : Live) (old : State) (of n block : ℕ) (ws : List ℤ) where
  pub record Emptying (live : Live) (now : State) (number : ℕ) : Type 0 where
    pub keeps : Keeps old now
    pub pc : now.pc ≡ old.pc
    pub fewer : length now.cells.items.items ≤ length old.cells.items.items
    pub bottom : now.base ≤ length now.cells.items.items
    pub so : (t : s.State) (l : Line) (x : Rooms) (told : IsTold p t) (there : slice_get (code_of p).lines t.pc ≡ Some l) (act : l.act ≡ i.Structure of n) → Stands p m old x t
        → Went p t of n (on-structure p t l of n told there act) old x block ws live now number

  pub emptying-none : (live : Live) → old.base ≤ length old.cells.items.items
      → ((t : s.State) (l : Line) (x : Rooms) (told : IsTold p t) (there : slice_get (code_of p).lines t.pc ≡ Some l) (act : l.act ≡ i.Structure of n) → Stands p m old x t
      → Went p t of n (on-structure p t l of n told there act) old x block ws live old 0) → Emptying live old 0
  emptying-none live bottom so = record {
    keeps = record { cells = refl; names = refl; callers = refl; blocks = refl; levels = refl };
    pc = refl;
    fewer = omega arith;
    bottom = bottom;
    so = so;
  }

  module _ (live : Live) (now : State) (number : ℕ) (e : Emptying live now number) (lt : number < n) where
    pub emptying-lost : (Full Spent : ℕ → Type 0) (new : Live) (mid last : State) → PoppedOr None now mid → DoesOver Full Spent p (i.Structure of n) (Err stop.Lost) m new old last
    emptying-lost Full Spent new mid last none t l x told there act st =
        absurd (some-left p t of n (on-structure p t l of n told there act) old x block ws live now number (e.so t l x told there act st) lt none.0)

    module _ (mid : State) (z : Cell) (popped : Popped z now mid) where
      pub emptying-free : (t : s.State) (l : Line) (x : Rooms) → IsTold p t → slice_get (code_of p).lines t.pc ≡ Some l → l.act ≡ i.Structure of n → Stands p m old x t
          → AreFree live (cell_blocks z)
      emptying-free t l x told there act st =
          went-free p t of n (on-structure p t l of n told there act) old x block ws live now number (e.so t l x told there act st) lt mid z popped

      pub emptying-more : (new : Live) → new ≡ without (cell_blocks z) live → Emptying new mid (number + 1)
      emptying-more new is = record {
        keeps = keeps-same old now mid e.keeps popped.same;
        pc = popped.pc ∙ e.pc;
        fewer = let a = popped.fewer in let b = e.fewer in omega (arith, a, b);
        bottom = popped.same.bottom e.bottom;
        so = λ t l x told there act st.
            went-more p t of n (on-structure p t l of n told there act) old x block ws live now number (e.so t l x told there act st) lt mid z popped new is;
      }
