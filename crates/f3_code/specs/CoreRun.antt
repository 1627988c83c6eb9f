-- The runs of Core programs.
use Rattle.std.specs.Prelude.{⊤, ◌^◌, ℕ, zero, suc, Bool, List, [], Option, None, Some, slice_get, Vec, refl}
use Rattle.std.specs.declared.alloc.Global.{Global}
use lib.Dec.{ltb→lt}
use native.Mathlib.Nat.{le_refl}
use denote.RawPtr.{null_ptr}
use Rattle.f3_places.specs.declared.source.Place.{Place}
use Rattle.f3_program.specs.declared.statement.Statement as s
use Rattle.f3_program.specs.declared.program.Procedure as procedure
use Rattle.f3_program.specs.declared.program.Program as program
use Rattle.f3_meaning_whole.specs.Value.{Value, Unallocated}
use Rattle.f3_meaning_whole.specs.declared.run_error.RunError.TheVariants.{CallsTooDeep}
use Rattle.f3_meaning_whole.specs.Ran.{World, Outcome, Ran, ◌>>=◌, fails, gives}
use Rattle.f3_meaning_whole.specs.Act.{Setting, Here, Passed, Calls, begins, enter, claim, at}
use Rattle.f3_meaning_whole.specs.Run.{setting_of}
use Rattle.f3_code.specs.Work.{Work}
use Rattle.f3_code.specs.Core.{Procedure, Program}
use Rattle.f3_code.specs.Exec.{exec, called}

-- a vector of nothing
abbrev pub empty : {X : Type 0} → Global → Vec X Global
empty h = record { ptr = null_ptr; len = 0; cap = 0; alloc = h; items = []; ok = (refl, le_refl 0); small = ltb→lt 0 (2 ^ 63) tt }

-- a procedure that does nothing
abbrev pub nobody : Global → Place → procedure.Procedure
nobody h place = record { unit = 0; dummies = empty h; locals = empty h; result = None; body = s.Return; end = place }

-- What is declared: the types and the variables that live for the whole run, without any procedure. This is all that expressions and designators look up.
abbrev pub declarations : Program → program.Program
declarations p = record { types = p.types; statics = p.statics; procedures = empty p.types.alloc; main = nobody p.types.alloc p.start; start = p.start }

-- the declarations, with the types as trees
abbrev pub core_setting : Program → Setting
core_setting p = setting_of (declarations p)

-- a call of the procedure of a number (12.4)
abbrev pub call_of : Setting → ℕ → List Work → Calls → Option Procedure → List Passed → Here → Ran Value
call_of g n types calls None ps here = gives Unallocated
call_of g n types calls (Some p) ps here = called g n types calls p ps here

-- calls of procedures, at most so deep (own rule)
unfoldable pub core_calls : ℕ → Program → ℕ → Calls
core_calls zero p n here f ps = fails CallsTooDeep here.place
core_calls (suc depth) p n here f ps = call_of (core_setting p) n p.routines (core_calls depth p n) (slice_get p.procedures f) ps here

-- the main program: its variables, its statements, its END (11.1)
abbrev pub core_main : Program → ℕ → Calls → Here → Ran ⊤
core_main p n calls here = do
  done ← claim here
  done ← enter p.main.initial
  flow ← exec (core_setting p) n p.routines calls p.main.body here
  begins (at p.main.end here)

-- in the main program, as it begins
abbrev pub core_here : Program → Here
core_here p = record { place = p.start; unit = p.main.unit; level = 0; variables = p.main.variables; names = []; lent = []; selected = Unallocated }

-- the run begins with the initial values of what lives for the whole run (16.5.3)
abbrev pub core_world : Program → (ℕ → Bool) → World
core_world p answers = record { store = record { statics = p.initial; levels = [] }; answers = answers }

-- the run of a program in which at most so many procedures are active, where each execution of a loop makes at most `n`
-- turns, and the heap answers its requests so
unfoldable pub core_runs : ℕ → Program → ℕ → (ℕ → Bool) → Outcome ⊤
core_runs depth p n answers = (core_main p n (core_calls depth p n) (core_here p)).from (core_world p answers)

-- the run of a program, with at most 1000 active procedures (own rule)
unfoldable pub core_run_of : Program → ℕ → (ℕ → Bool) → Outcome ⊤
core_run_of p n answers = core_runs 1000 p n answers
