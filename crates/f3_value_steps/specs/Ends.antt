-- How instructions end.
use Rattle.std.specs.Prelude.{⊤, ℕ, pos, List, [], ◌∷◌, length, Result}
use Rattle.f3_places.specs.declared.source.Place.{Place}
use Rattle.f3_program.specs.declared.program.Program.{Program}
use Rattle.f3_meaning_whole.specs.Value as m
use Rattle.f3_meaning_whole.specs.Ran.{◌>>=◌}
use Rattle.f3_meaning_whole.specs.Act.{Here}
use Rattle.f3_meaning_whole.specs.Eval.{built}
use Rattle.f3_meaning_whole.specs.declared.run_error.RunError.{RunError}
use Rattle.f3_code.specs.declared.instruction.Instruction.{Instruction}
use Rattle.f3_code.specs.State.{Code, Datum}
use Rattle.f3_code.specs.Machine.{act, on, performs}
use Rattle.f3_data.specs.declared.value.Value.{Value}
use Rattle.f3_shaping.specs.Results.{value_ran}
use Rattle.f3_cells.specs.declared.scene.Scene.{Scene}
use Rattle.f3_cells.specs.declared.state.State.{State}
use Rattle.f3_cells.specs.declared.state.Stop.{Stop}
use Rattle.f3_cells.specs.Cells.{cells_of}
use Rattle.f3_cells.specs.Follows.{Follows}
use Rattle.f3_cells.specs.States.{state_of, world_of, setting}

-- what an operation gave goes on top of the stack, or its error ends the run at a place
abbrev pub Finishes : Result Value RunError → Result ⊤ Stop → State → State → Type 0
Finishes given result old new = (p : Program) (code : Code) (place : Place) → Follows code
    (performs (value_ran given place) (world_of old.store) (λ y. on (state_of p old) (Datum y ∷ cells_of p old.stack.items))) result (state_of p new) place

-- the same of what takes storage as it is built
abbrev pub FinishesBuilt : Result Value RunError → Result ⊤ Stop → State → State → Type 0
FinishesBuilt given result old new = (p : Program) (code : Code) (here : Here) → Follows code
    (performs (value_ran given here.place >>= λ x. built x here) (world_of old.store) (λ y. on (state_of p old) (Datum y ∷ cells_of p old.stack.items))) result
    (state_of p new) here.place

-- An instruction of a program does so in whatever code, at whatever place and with whatever value of its line.
abbrev pub DoesOf : Scene → Instruction → Result ⊤ Stop → State → State → Type 0
DoesOf x i result old new = (limit : ℕ) (code : Code) (v : m.Value) (here : Here)
    → Follows code (act limit (setting x.program.now) code i v here (state_of x.program.now old)) result (state_of x.program.now new) here.place

-- an array of rank 1 with these elements, from 1 on
abbrev pub vector_of : List m.Value → m.Value
vector_of vs = m.Array (record { lower = pos 1; extent = length vs } ∷ []) (m.joined vs)
