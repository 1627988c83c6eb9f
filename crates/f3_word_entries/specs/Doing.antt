-- An instruction that may take a block, done at a place.
use Rattle.std.specs.Prelude.{⊤, ◌≡◌, ℕ, Some, Result, slice_get, unwrap_or}
use Rattle.f3_places.specs.declared.source.Place.{Place}
use Rattle.f3_program.specs.declared.program.Program.{Program}
use Rattle.f3_code.specs.declared.instruction.Instruction.{Instruction}
use Rattle.f3_code.specs.State.{Line}
use Rattle.f3_code.specs.State as s
use Rattle.f3_rooms.specs.Rooms.{Rooms}
use Rattle.f3_live_blocks.specs.Blocks.{Live}
use Rattle.f3_word_cells.specs.declared.state.State.{State}
use Rattle.f3_word_cells.specs.declared.state.Stop.{Stop}
use Rattle.f3_word_cells.specs.Scenes.{code_of}
use Rattle.f3_word_cells.specs.States.{Stands}
use Rattle.f3_word_cells.specs.Does.{BecomesOver, IsTold}

-- what becomes of it, from each state for which blocks and a state in memory stand
abbrev pub DoesOverAt : (Full Spent : ℕ → Type 0) → Program → Place → Instruction → Result ⊤ Stop → Live → Live → State → State → Type 0
DoesOverAt Full Spent p place x result m n old new = (t : s.State) (l : Line) (rooms : Rooms) → IsTold p t → slice_get (code_of p).lines t.pc ≡ Some l
    → l.act ≡ x → unwrap_or l.place (t.here).place ≡ place → Stands p m old rooms t → BecomesOver Full Spent p l t result n new
