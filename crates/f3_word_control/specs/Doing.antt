-- Instructions that know more than the cells.
use Rattle.std.specs.Prelude.{⊤, ◌≡◌, ℕ, List, [], length, Some, Result, Ok, Err, slice_get}
use Rattle.f3_places.specs.declared.source.Place.{Place}
use Rattle.f3_program.specs.declared.program.Program.{Program}
use Rattle.f3_live_blocks.specs.Blocks.{Live}
use Rattle.f3_code.specs.declared.instruction.Instruction.{Instruction}
use Rattle.f3_code.specs.State.{Line}
use Rattle.f3_code.specs.State as s
use Rattle.f3_rooms.specs.Rooms.{Rooms}
use Rattle.f3_output.specs.Output.{Wrote, Faulted}
use Rattle.f3_output.specs.Output as o
use Rattle.f3_word_cells.specs.declared.state.State.{State}
use Rattle.f3_word_cells.specs.declared.state.Stop.{Stop}
use Rattle.f3_word_cells.specs.declared.state.Stop.TheVariants as stop
use Rattle.f3_word_cells.specs.Scenes.{code_of}
use Rattle.f3_word_cells.specs.States.{Stands}
use Rattle.f3_word_cells.specs.Does.{IsTold, IsAt, GoesOn, StopsBy, Follows, DoesIn, DoesAt}

-- in whatever program whose code has so many lines
abbrev pub DoesAmong : ℕ → Instruction → Result ⊤ Stop → State → State → Type 0
DoesAmong total x result old new = (p : Program) (live : Live) → length (code_of p).lines ≡ total → DoesIn p x result live live old new

-- at a place, in whatever program
abbrev pub DoesThere : Place → Instruction → Result ⊤ Stop → State → State → Type 0
DoesThere place x result old new = (p : Program) (live : Live) → DoesAt p place x result live live old new

-- A state at a line with an instruction of some program, for which blocks and a state in memory stand.
abbrev pub IsAtSome : Instruction → Live → State → Type 0
IsAtSome x live w = (p : Program) × IsAt p x live w

-- with blocks, in whatever program
abbrev pub DoesWith : Instruction → Result ⊤ Stop → Live → Live → State → State → Type 0
DoesWith x result m n old new = (p : Program) → DoesIn p x result m n old new

-- what becomes of an instruction that prints, with an output before and now
abbrev pub Prints : Program → Line → s.State → Result ⊤ Stop → Live → State → o.State → o.State → Type 0
Prints p l t (Ok done) live w a b = (bytes : List ℕ) × Follows p l t bytes live w × Wrote a b bytes
Prints p l t (Err stop.Refused) live w a b = (to : s.State) × (bytes : List ℕ) × GoesOn p l t to bytes × Faulted a b bytes
Prints p l t (Err e) live w a b = StopsBy p l t e × Wrote a b []

-- An instruction that prints does so in whatever program.
abbrev pub DoesPrint : Instruction → Result ⊤ Stop → Live → Live → State → State → o.State → o.State → Type 0
DoesPrint x result m n old new a b = (p : Program) (t : s.State) (l : Line) (rooms : Rooms) → IsTold p t → slice_get (code_of p).lines t.pc ≡ Some l
    → l.act ≡ x → Stands p m old rooms t → Prints p l t result n new a b
