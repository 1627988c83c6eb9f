-- What instructions about allocation come to.
use Rattle.std.specs.Prelude.{⊤, ◌≡◌, ℕ, Bool, false, ◌||◌, nat_lt, List, [], Option, None, Some, Result, Ok, Err, if◌then◌else◌, length}
use Rattle.f3_places.specs.declared.source.Place.{Place}
use Rattle.f3_program.specs.declared.program.Program.{Program}
use Rattle.f3_program.specs.declared.declarations.Base.{Base}
use Rattle.f3_meaning_whole.specs.Value as m
use Rattle.f3_meaning_whole.specs.Store as s
use Rattle.f3_meaning_whole.specs.Reference.{Reference, is_pinned}
use Rattle.f3_meaning_whole.specs.declared.run_error.RunError.{RunError}
use Rattle.f3_meaning_whole.specs.declared.run_error.RunError.TheVariants.{NotAllocated, InUse}
use Rattle.f3_meaning_whole.specs.Ran.{Event, Gives, Fails, Ran, ◌>>=◌, looks}
use Rattle.f3_meaning_whole.specs.Run.{output}
use Rattle.f3_meaning_whole.specs.Exec.{too_many, take_over}
use Rattle.f3_meaning_whole.specs.Act.{Setting, Here, at}
use Rattle.f3_data.specs.declared.value.Span.{Span}
use Rattle.f3_data.specs.declared.store.Store.{Store}
use Rattle.f3_data.specs.Values.{spans_of}
use Rattle.f3_code.specs.declared.instruction.Instruction.{Instruction}
use Rattle.f3_code.specs.State as c
use Rattle.f3_code.specs.Machine.{act, branches, goes, skips, no_calls}
use Rattle.f3_gen_values.specs.Emitted.{taken}
use Rattle.f3_cells.specs.declared.scene.Scene.{Scene}
use Rattle.f3_cells.specs.declared.state.State.{State}
use Rattle.f3_cells.specs.declared.state.Stop.{Stop}
use Rattle.f3_cells.specs.declared.state.Stop.TheVariants as stop
use Rattle.f3_cells.specs.Cells.{here_of}
use Rattle.f3_cells.specs.States.{state_of, world_of, setting}
use Rattle.f3_cells.specs.Follows.{Follows, DoesThere}

-- An instruction does so in code of so many lines, in whatever program, with whatever value of its line, where the activation is at any place.
abbrev pub DoesHere : ℕ → Instruction → Result ⊤ Stop → State → State → Type 0
DoesHere total i result old new = (p : Program) (limit : ℕ) (g : Setting) (code : c.Code) (v : m.Value) (place : Place) → length code.lines ≡ total
    → Follows code (act limit g code i v (at place (here_of p old.here)) (state_of p old)) result (state_of p new) place

-- An instruction of a program does so, with the value that its line takes, at any place.
abbrev pub DoesWith : Scene → Option Base → Instruction → Result ⊤ Stop → State → State → Type 0
DoesWith x initial i result old new = (place : Place) → DoesThere x i (taken (setting x.program.now) initial) place result old new

-- why what stands at a path may not be deallocated, if there is a reason (ISO/IEC 1539-1:2004, 6.3.3)
abbrev pub hindrance : s.Store → s.Path → List Reference → Option RunError
hindrance store path lent = if m.is_allocated (s.get store path) then (if is_pinned path lent then Some InUse else None) else Some NotAllocated

-- by the state of a variable and the shape of a value the next line comes, or one so far on
abbrev pub Branches : m.Value → m.Value → ℕ → ℕ → Option ℕ → Type 0
Branches old v other unallocated None = (s : c.State) → branches old v other unallocated s ≡ goes s s.stack
Branches old v other unallocated (Some d) = (s : c.State) → branches old v other unallocated s ≡ skips s d s.stack

-- an ALLOCATE makes no array of these bounds (own rule for 6.3.1)
abbrev pub too_large : List m.Span → Bool
too_large ss = too_many ss || nat_lt 16777216 (m.count ss)

-- bounds in memory of which an ALLOCATE makes an array
pub record FitsIn (spans : List Span) (ss : List m.Span) : Type 0 where
  pub same : spans_of spans ≡ ss
  pub fits : too_large ss ≡ false

-- a part of a run gives this wherever it is, and the store becomes that, and no byte is printed
abbrev pub Performs : {A : Type 0} → (Here → Ran A) → Store → A → Store → Type 0
Performs m old x new = (here : Here) → (out : List Event)
    × ((m here).from (world_of old) ≡ record { out = out; end = Gives x (world_of new) })
    × (output out ≡ [])

-- what an object holds goes to another, wherever these are lent, or it is in use; of want of memory nothing is said here
abbrev pub TakesOver : Reference → Reference → List Reference → Result ⊤ Stop → Store → Store → Type 0
TakesOver from to lent (Ok done) old new = (g : Setting) (here : Here) → here.lent ≡ lent → (out : List Event)
    × ((looks (λ store. s.get store from.path) >>= λ x. take_over g 0 no_calls from to x here).from (world_of old)
    ≡ record { out = out; end = Gives tt (world_of new) })
    × (output out ≡ [])
TakesOver from to lent (Err (stop.Failed error)) old new = (g : Setting) (here : Here) → here.lent ≡ lent
    → (looks (λ store. s.get store from.path) >>= λ x. take_over g 0 no_calls from to x here).from (world_of old)
    ≡ record { out = []; end = Fails error here.place }
TakesOver from to lent (Err stop.Memory) old new = ⊤
TakesOver from to lent (Err e) old new = ⊥
