-- What it is to answer what an instruction asks of a heap.
use Rattle.std.specs.Prelude.{⊤, ◌≡◌, ℕ, Bool, true, false, Result, Ok, Err, []}
use Rattle.f3_places.specs.declared.source.Place.{Place}
use Rattle.f3_meaning_whole.specs.Value.{Value}
use Rattle.f3_meaning_whole.specs.Act.{at}
use Rattle.f3_code.specs.declared.instruction.Instruction.{Instruction}
use Rattle.f3_code.specs.State.{Next}
use Rattle.f3_code.specs.Machine.{act}
use Rattle.f3_data.specs.Stores.{store_of}
use Rattle.f3_cells.specs.declared.scene.Scene.{Scene}
use Rattle.f3_cells.specs.declared.state.State.{State}
use Rattle.f3_cells.specs.declared.state.Stop.{Stop}
use Rattle.f3_cells.specs.declared.state.Stop.TheVariants as stop
use Rattle.f3_cells.specs.Cells.{here_of}
use Rattle.f3_cells.specs.Follows.{GoesOn, StopsBy}
use Rattle.f3_cells.specs.States.{state_of, setting, code_of}
use Rattle.f3_code.specs.Account.{used}
use Rattle.f3_code.specs.Wants.{wants}
use Rattle.f3_code.specs.Heap.{is_full, refused_once, with_answers}

-- whether a heap of so many words refuses what an instruction with a value asks in a state
abbrev pub refuses : ℕ → Scene → Instruction → Value → State → Bool
refuses size x i v t = is_full size (used (store_of t.store)) (wants 1000 (code_of x) i v (state_of x.program.now t))

-- what an instruction with a value does at a place, where its request is refused
abbrev pub refused : Scene → Instruction → Value → Place → State → Next
refused x i v place t = act 1000 (setting x.program.now) (code_of x) i v (at place (here_of x.program.now t.here))
    (with_answers refused_once (state_of x.program.now t))

-- Its request, if it makes one, is granted, and nothing was done; or it was refused, and so the instruction was done. Of want
-- of memory nothing is said here.
abbrev pub Answered : ℕ → Scene → Instruction → Value → Place → Result Bool Stop → State → State → Type 0
Answered size x i v place (Ok false) old new = (refuses size x i v old ≡ false) × (new ≡ old)
Answered size x i v place (Ok true) old new = (refuses size x i v old ≡ true) × GoesOn (refused x i v place old) (state_of x.program.now new) []
Answered size x i v place (Err stop.Memory) old new = ⊤
Answered size x i v place (Err e) old new = (refuses size x i v old ≡ true) × StopsBy (code_of x) (refused x i v place old) e place
