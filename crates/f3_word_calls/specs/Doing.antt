-- Instructions that know more than the cells.
use Rattle.std.specs.Prelude.{⊤, ◌≡◌, ℕ, length, Result}
use Rattle.f3_program.specs.declared.program.Program.{Program}
use Rattle.f3_live_blocks.specs.Blocks.{Live}
use Rattle.f3_code.specs.declared.instruction.Instruction.{Instruction}
use Rattle.f3_word_cells.specs.declared.state.State.{State}
use Rattle.f3_word_cells.specs.declared.state.Stop.{Stop}
use Rattle.f3_word_cells.specs.Scenes.{code_of}
use Rattle.f3_word_cells.specs.Does.{DoesIn, IsAt}

-- in whatever program whose code has so many lines
abbrev pub DoesAmong : ℕ → Instruction → Result ⊤ Stop → State → State → Type 0
DoesAmong total x result old new = (p : Program) (live : Live) → length (code_of p).lines ≡ total → DoesIn p x result live live old new

-- A state at a line with an instruction of some program, for which blocks and a state in memory stand.
abbrev pub IsAtSome : Instruction → Live → State → Type 0
IsAtSome x live w = (p : Program) × IsAt p x live w

-- with blocks, in whatever program
abbrev pub DoesWith : Instruction → Result ⊤ Stop → Live → Live → State → State → Type 0
DoesWith x result m n old new = (p : Program) → DoesIn p x result m n old new
