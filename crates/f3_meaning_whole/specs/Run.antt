-- What programs mean.
use Rattle.std.specs.Prelude.{⊤, ◌≡◌, ℕ, zero, suc, Bool, true, false, List, [], ◌∷◌, map, Option, None, Some, slice_get}
use Rattle.f3_places.specs.declared.source.Place.{Place}
use Rattle.f3_program.specs.declared.program.Static as x
use Rattle.f3_program.specs.declared.program.Procedure.{Procedure}
use Rattle.f3_program.specs.declared.program.Program.{Program}
use Rattle.f3_meaning_whole.specs.Value.{Value, Unallocated}
use Rattle.f3_meaning_whole.specs.declared.run_error.RunError.{RunError}
use Rattle.f3_meaning_whole.specs.declared.run_error.RunError.TheVariants.{CallsTooDeep}
use Rattle.f3_meaning_whole.specs.Store.{Store}
use Rattle.f3_meaning_whole.specs.Ran.{Event, Printed, Changed, Began, Entered, Ended, Asked, Change, Stage, World, End, Gives, Fails}
use Rattle.f3_meaning_whole.specs.Ran.{Stops, Beyond, Outcome, Ran, ◌>>=◌, gives, fails}
use Rattle.f3_meaning_whole.specs.Shape.{shapes_of}
use Rattle.f3_meaning_whole.specs.Act.{Setting, Here, Passed, Calls, begins, enter, claim, at}
use Rattle.f3_meaning_whole.specs.Exec.{exec, called, initial_value, declared_in, variables}

-- a call of the procedure of a number
abbrev pub call_of : Setting → ℕ → Calls → Option Procedure → List Passed → Here → Ran Value
call_of g n calls None ps here = gives Unallocated
call_of g n calls (Some p) ps here = called g n calls p ps here

-- calls of procedures, at most so deep (own rule)
unfoldable pub calls_of : ℕ → Setting → ℕ → Calls
calls_of zero g n here f ps = fails CallsTooDeep here.place
calls_of (suc depth) g n here f ps = call_of g n (calls_of depth g n) (slice_get g.program.procedures.items f) ps here

abbrev pub setting_of : Program → Setting
setting_of p = record { program = p; shapes = shapes_of p.types.items }

-- the main program: its variables, its statements, its END
abbrev pub main_of : Setting → ℕ → Calls → Here → Ran ⊤
main_of g n calls here = do
  done ← claim here
  done ← enter (variables g g.program.main)
  flow ← exec g n calls g.program.main.body here
  begins (at g.program.main.end here)

-- the run begins with the initial values of what lives for the whole run
abbrev pub first_store : Setting → Store
first_store g = record { statics = map (λ (y : x.Static). initial_value g y.declared) g.program.statics.items; levels = [] }

abbrev pub first_world : Setting → (ℕ → Bool) → World
first_world g answers = record { store = first_store g; answers = answers }

-- in the main program, as it begins
abbrev pub first_here : Setting → Here
first_here g = record {
  place = g.program.start;
  unit = g.program.main.unit;
  level = 0;
  variables = declared_in g.program.main;
  names = [];
  lent = [];
  selected = Unallocated;
}

-- The run of a program in which at most so many procedures are active, where each execution of a loop makes at most `n`
-- turns, and the heap answers its requests so.
unfoldable pub runs : ℕ → Program → ℕ → (ℕ → Bool) → Outcome ⊤
runs depth p n answers = (main_of (setting_of p) n (calls_of depth (setting_of p) n) (first_here (setting_of p))).from (first_world (setting_of p) answers)

-- the run of a program, with at most 1000 active procedures (own rule)
unfoldable pub run_of : Program → ℕ → (ℕ → Bool) → Outcome ⊤
run_of p n answers = runs 1000 p n answers

-- the bytes that are printed
abbrev pub output : List Event → List ℕ
output [] = []
output (Printed byte ∷ events) = byte ∷ output events
output (Changed c vs ∷ events) = output events
output (Began s ∷ events) = output events
output (Entered vs ∷ events) = output events
output (Ended level ∷ events) = output events
output (Asked refused ∷ events) = output events

-- the changes
abbrev pub changes : List Event → List Change
changes [] = []
changes (Printed byte ∷ events) = changes events
changes (Changed c vs ∷ events) = c ∷ changes events
changes (Began s ∷ events) = changes events
changes (Entered vs ∷ events) = changes events
changes (Ended level ∷ events) = changes events
changes (Asked refused ∷ events) = changes events

-- the stages
abbrev pub stages : List Event → List Stage
stages [] = []
stages (Printed byte ∷ events) = stages events
stages (Changed c vs ∷ events) = stages events
stages (Began s ∷ events) = s ∷ stages events
stages (Entered vs ∷ events) = stages events
stages (Ended level ∷ events) = stages events
stages (Asked refused ∷ events) = stages events

-- of each request of an ALLOCATE, whether it was refused
abbrev pub requests : List Event → List Bool
requests [] = []
requests (Printed byte ∷ events) = requests events
requests (Changed c vs ∷ events) = requests events
requests (Began s ∷ events) = requests events
requests (Entered vs ∷ events) = requests events
requests (Ended level ∷ events) = requests events
requests (Asked refused ∷ events) = refused ∷ requests events

-- ---- what users see of a run

-- how a run ends; one that needs more turns of a loop than it may make has not ended
pub data Ending : Type 0 where
  Finished : Ending
  Stopped : (code : Option ℕ) → Ending
  Failed : (error : RunError) (place : Place) → Ending
  Unfinished : Ending

abbrev pub ending : End ⊤ → Ending
ending (Gives x w) = Finished
ending (Stops code) = Stopped code
ending (Fails error place) = Failed error place
ending Beyond = Unfinished

-- the requests from an ordinal on are refused exactly where their ordinals are among these
abbrev pub RefusedAs : (ℕ → Type 0) → ℕ → List Bool → Type 0
RefusedAs R i [] = ⊤
RefusedAs R i (true ∷ bs) = R i × RefusedAs R (suc i) bs
RefusedAs R i (false ∷ bs) = (R i → ⊥) × RefusedAs R (suc i) bs

-- A program prints these bytes and ends so, where each execution of a loop makes at most `n` turns and of the requests of
-- ALLOCATE, counted from 1, exactly those with the ordinals R are refused: for some answers of the heap.
pub record Prints (p : Program) (n : ℕ) (R : ℕ → Type 0) (bytes : List ℕ) (end : Ending) : Type 0 where
  pub answers : ℕ → Bool
  pub prints : output (run_of p n answers).out ≡ bytes
  pub ends : ending (run_of p n answers).end ≡ end
  pub refused : RefusedAs R 1 (requests (run_of p n answers).out)
