-- What activations need, as the calls say it.
use Rattle.std.specs.Prelude.{⊤, ◌≡◌, ◌≤◌, ◌<◌, ℕ, suc, ◌+◌, ◌-◌, Bool, List, [], ◌∷◌, length, Option, None, Some, slice_get, slice_index}
use Rattle.f3_code.specs.Core.{Procedure, Program}
use Rattle.f3_code.specs.State.{Entry, Frame, State}
use Rattle.f3_code.specs.Code.{body_code, main_code, program_code}
use Rattle.f3_heights.specs.Program.{program_heights}
use Rattle.f3_heights.specs.Room.{home, main_need, procedure_need, state_after}
use Rattle.f3_sizes.specs.declared.answer.Needs.{Needs}

-- what was answered for the main program, and for a procedure by its number
abbrev pub answer_for : Needs → Option ℕ → ℕ
answer_for n None = n.main
answer_for n (Some f) = slice_index n.procedures.items f

-- the same, or none where there is no such procedure
abbrev pub told_for : Needs → Option ℕ → Option ℕ
told_for n None = Some n.main
told_for n (Some f) = slice_get n.procedures.items f

-- a line of the main program, or of a procedure by its number
abbrev pub IsLineOf : Program → Option ℕ → ℕ → Type 0
IsLineOf p None pc = pc < length (main_code (length p.routines) p.main)
IsLineOf p (Some f) pc = (e : Entry) × (q : Procedure) × (slice_get (program_code p).procedures f ≡ Some e) × (slice_get p.procedures f ≡ Some q) ×
    (e.at ≤ pc) × (pc < e.at + length (body_code (length p.routines) q))

-- Of whose code the line is, so many cells are within the answer for it.
abbrev pub IsWithinAnswer : Program → Needs → ℕ → ℕ → Type 0
IsWithinAnswer p n pc cells = (whose : Option ℕ) → IsLineOf p whose pc → cells ≤ answer_for n whose

abbrev pub height_in : Program → ℕ → ℕ
height_in p = slice_index (program_heights p)

-- so each caller, with the value that it is given
abbrev pub CallersWithinAnswers : Program → Needs → List Frame → Type 0
CallersWithinAnswers p n [] = ⊤
CallersWithinAnswers p n (f ∷ fs) = IsWithinAnswer p n (home (height_in p) f.pc (height_in p f.pc - 1) f.stack) (suc (length f.stack)) × CallersWithinAnswers p n fs

-- In each state of each run, whatever the heap answers and however many procedures may be active, no activation has more cells on its
-- stack than was answered for the procedure at whose line it is, or to whose line the routines lead back that it runs (`home`).
abbrev pub AreNeverDeeper : Program → Needs → Type 0
AreNeverDeeper p n = (limit : ℕ) (answers : ℕ → Bool) (k : ℕ) (s : State) → state_after limit p (program_code p) answers k ≡ Some s →
    IsWithinAnswer p n (home (height_in p) s.pc (height_in p s.pc) s.stack) (length s.stack) × CallersWithinAnswers p n s.frames

-- There is an answer for each procedure, and none is more than the greatest heights of all lines add up to.
pub record AreNotPadded (p : Program) (n : Needs) : Type 0 where
  pub same : length n.procedures.items ≡ length p.procedures
  pub main : n.main ≤ main_need p
  pub procedures : (f : ℕ) (q : Procedure) → slice_get p.procedures f ≡ Some q → slice_index n.procedures.items f ≤ procedure_need p q
