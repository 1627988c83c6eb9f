-- What it is to enter a procedure.
use Rattle.std.specs.Prelude.{⊤, ◌≡◌, ℕ, ◌+◌, List, [], ◌∷◌, length, map, Some, Result, slice_get}
use Rattle.f3_places.specs.declared.source.Place.{Place}
use Rattle.f3_program.specs.declared.program.Procedure.{Procedure}
use Rattle.f3_program.specs.declared.program.Program.{Program}
use Rattle.f3_meaning_whole.specs.Ran.{Entered, effect}
use Rattle.f3_meaning_whole.specs.Act.{Setting, at}
use Rattle.f3_meaning_whole.specs.Exec.{declared_in, variables, held}
use Rattle.f3_meaning_whole.specs.Run.{setting_of}
use Rattle.f3_code.specs.State.{Entry}
use Rattle.f3_code.specs.Machine.{called_at, entered}
use Rattle.f3_data.specs.Stores.{store_of}
use Rattle.f3_cells.specs.declared.cell.Here.{Here}
use Rattle.f3_cells.specs.declared.cell.Passed.{Passed}
use Rattle.f3_cells.specs.declared.scene.Scene.{Scene}
use Rattle.f3_cells.specs.declared.state.State.{State}
use Rattle.f3_cells.specs.declared.state.Stop.{Stop}
use Rattle.f3_cells.specs.Cells.{passed_of, here_of, cells_of}
use Rattle.f3_cells.specs.Follows.{Follows}
use Rattle.f3_cells.specs.States.{state_of, world_of, code_of, granted}

-- a procedure that begins at a line
abbrev pub entry_in : Setting → Procedure → ℕ → Entry
entry_in g q line = record { at = line; unit = q.unit; dummies = q.dummies.items; variables = declared_in q; initial = variables g q }

-- the procedure of a number, and the line at which its code begins
abbrev pub IsEntry : Scene → ℕ → Procedure → ℕ → Type 0
IsEntry x f q line = (slice_get x.program.now.procedures.items f ≡ Some q)
    × (slice_get (code_of x).procedures f ≡ Some (entry_in (setting_of x.program.now) q line))

-- a frame more, and the activation is within the procedure at its first line
abbrev pub Framed : Here → ℕ → List Passed → ℕ → Place → State → State → Type 0
Framed inner line ps level place old new = (p : Program) → state_of p new ≡ record {
  pc = line;
  stack = [];
  here = here_of p inner;
  frames = record {
    pc = old.pc + 1;
    stack = cells_of p old.stack.items;
    here = here_of p old.here;
    caller = at place (here_of p old.here);
    arguments = map passed_of ps;
    level = level;
  } ∷ (state_of p old).frames;
  world = world_of old.store;
}

-- a procedure of a program is entered with these arguments
abbrev pub EnteredAt : Program → Procedure → ℕ → List Passed → Place → State → State → Type 0
EnteredAt p q line ps place old new = state_of p new
    ≡ entered (state_of p old) (cells_of p old.stack.items) (at place (here_of p old.here)) (entry_in (setting_of p) q line) (map passed_of ps)
    (length (store_of old.store).levels)
    (record { store = effect (Entered (variables (setting_of p) q)) (effect (Entered (held (map passed_of ps))) (store_of old.store)); answers = granted })

-- a procedure of a number is called with these arguments
abbrev pub CalledWith : Scene → ℕ → List Passed → Place → Result ⊤ Stop → State → State → Type 0
CalledWith x f ps place result old new = Follows (code_of x)
    (called_at (slice_get (code_of x).procedures f) (state_of x.program.now old) (cells_of x.program.now old.stack.items)
    (at place (here_of x.program.now old.here)) (map passed_of ps)) result (state_of x.program.now new) place
