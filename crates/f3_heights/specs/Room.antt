-- How many cells an activation needs in all, and that it has no more.
use Rattle.std.specs.Prelude.{⊤, ◌≡◌, ◌≤◌, ◌<◌, ℕ, zero, suc, ◌+◌, ◌-◌, max, List, [], ◌∷◌, ◌++◌, length, Option, None, Some}
use Rattle.std.specs.Prelude.{Bool}
use Rattle.f3_meaning_whole.specs.Ran.{◌>>=◌}
use Rattle.f3_meaning_whole.specs.Act.{Setting, claim, enter}
use Rattle.f3_code.specs.Work as w
use Rattle.f3_code.specs.Core as c
use Rattle.f3_code.specs.CoreRun.{core_setting, core_here, core_world}
use Rattle.f3_code.specs.State.{Code, Cell, To, Frame, State, Next, Goes}
use Rattle.f3_code.specs.State as state
use Rattle.f3_code.specs.Machine.{performs, step}
use Rattle.f3_code.specs.Run.{start}
use Rattle.f3_heights.specs.Program.{work_heights, body_heights, main_heights}

-- ---- needs

abbrev pub greatest : List ℕ → ℕ
greatest [] = 0
greatest (h ∷ hs) = max h (greatest hs)

-- the routine of the newest type, and those that it may run
abbrev pub routines_need : List w.Work → ℕ
routines_need [] = 0
routines_need (x ∷ xs) = greatest (work_heights (length xs) 0 x ++ 1 ∷ []) + routines_need xs

-- a procedure, and the routines that it may run: of each the cells from its object on, which stand where the way back does
abbrev pub procedure_need : c.Program → c.Procedure → ℕ
procedure_need p q = greatest (body_heights (length p.routines) q) + routines_need p.routines

abbrev pub main_need : c.Program → ℕ
main_need p = greatest (main_heights (length p.routines) p.main) + routines_need p.routines

-- the same for each of some lines
abbrev pub alike : ℕ → List ℕ → List ℕ
alike need [] = []
alike need (h ∷ hs) = need ∷ alike need hs

abbrev pub routines_needs : List w.Work → List ℕ
routines_needs [] = []
routines_needs (x ∷ xs) = alike (routines_need (x ∷ xs)) (work_heights (length xs) 0 x ++ 1 ∷ []) ++ routines_needs xs

abbrev pub procedures_needs : c.Program → List c.Procedure → List ℕ
procedures_needs p [] = []
procedures_needs p (q ∷ qs) = alike (procedure_need p q) (body_heights (length p.routines) q) ++ procedures_needs p qs

-- of each line of the code of a program what its procedure needs, or its routine with those that it may run
abbrev pub program_needs : c.Program → List ℕ
program_needs p = alike (main_need p) (main_heights (length p.routines) p.main) ++ (routines_needs p.routines ++ procedures_needs p p.procedures)

-- ---- activations

-- An activation that needs so many cells in all has `h`, of `room` that there may be from the newest way back on; and so beneath
-- that, where the routine leads back to a line that has more room by all that stands there. `needs` are those of lines.
abbrev pub Within : (height needs : ℕ → ℕ) → (need room h : ℕ) → List Cell → Type 0
Within height needs need room zero [] = room ≡ need
Within height needs need room (suc h) [] = ⊥
Within height needs need room zero (To back place ∷ below) = (h : ℕ) × (height back ≡ suc h) × (room + suc h ≤ needs back) ×
    Within height needs need (needs back) h below
Within height needs need room zero (c ∷ below) = ⊥
Within height needs need room (suc h) (c ∷ below) = Within height needs need room h below

abbrev pub FramesWithin : (height needs : ℕ → ℕ) → List ℕ → List Frame → Type 0
FramesWithin height needs [] [] = ⊤
FramesWithin height needs (x ∷ xs) (f ∷ fs) = (h : ℕ) × (height f.pc ≡ suc h) × Within height needs x (needs f.pc) h f.stack ×
    FramesWithin height needs xs fs
FramesWithin height needs xs fs = ⊥

-- A state in which the newest activation needs so many cells, and its callers so many.
pub record IsWithin (height needs : ℕ → ℕ) (need : ℕ) (others : List ℕ) (s : State) : Type 0 where
  pub stack : Within height needs need (needs s.pc) (height s.pc) s.stack
  pub frames : FramesWithin height needs others s.frames

-- The line of its procedure at which an activation is, or to which the routines that it runs lead back: the cells of a line stand
-- above the way back.
abbrev pub home : (height : ℕ → ℕ) → ℕ → ℕ → List Cell → ℕ
home height pc zero (To back place ∷ below) = home height back (height back - 1) below
home height pc (suc h) (c ∷ below) = home height pc h below
home height pc h stack = pc

-- no caller has as many cells as it needs: the value that it is given is one more
abbrev pub FramesHave : (height needs : ℕ → ℕ) → List ℕ → List Frame → Type 0
FramesHave height needs [] [] = ⊤
FramesHave height needs (x ∷ xs) (f ∷ fs) = (length f.stack < x) × (needs (home height f.pc (height f.pc - 1) f.stack) ≡ x) ×
    FramesHave height needs xs fs
FramesHave height needs xs fs = ⊥

-- No activation has more cells than it needs, which is what the line of its procedure says.
pub record HasRoom (height needs : ℕ → ℕ) (need : ℕ) (others : List ℕ) (s : State) : Type 0 where
  pub stack : length s.stack ≤ need
  pub procedure : needs (home height s.pc (height s.pc) s.stack) ≡ need
  pub frames : FramesHave height needs others s.frames

-- How a step changes what the activations need: not at all; or one more begins, which needs so much, where there were fewer callers
-- than there may be; or the newest one ends.
pub data Change (limit need : ℕ) (others : List ℕ) (new : ℕ) (need' : ℕ) (others' : List ℕ) : Type 0 where
  Stays : need' ≡ need → others' ≡ others → Change limit need others new need' others'
  Begins : length others < limit → need' ≡ new → others' ≡ need ∷ others → Change limit need others new need' others'
  Ends : others ≡ need' ∷ others' → Change limit need others new need' others'

-- the needs of the activations of the state to which a step leads; one that begins needs what its first line says
pub record NextWithin (limit : ℕ) (height needs : ℕ → ℕ) (need : ℕ) (others : List ℕ) (t : State) : Type 0 where
  pub need' : ℕ
  pub others' : List ℕ
  pub change : Change limit need others (needs t.pc) need' others'
  pub is : IsWithin height needs need' others' t

-- the cells of all activations together
abbrev pub frames_cells : List Frame → ℕ
frames_cells [] = 0
frames_cells (f ∷ fs) = length f.stack + frames_cells fs

abbrev pub all_cells : State → ℕ
all_cells s = length s.stack + frames_cells s.frames

-- ---- runs

abbrev pub state_next : Next → (State → Option State) → Option State
state_next (Goes out t) f = f t
state_next (state.Stays out halt) f = None

-- the state after so many instructions, where the machine goes on so long
abbrev pub state_run : ℕ → Setting → Code → ℕ → State → Option State
state_run limit g code zero s = Some s
state_run limit g code (suc k) s = state_next (step limit g code s) (state_run limit g code k)

-- The same of the run of a program, from where the variables of its main program have come to be.
abbrev pub state_after : ℕ → c.Program → Code → (ℕ → Bool) → ℕ → Option State
state_after limit p code answers k = state_next (performs (claim (core_here p) >>= λ done. enter p.main.initial) (core_world p answers) (λ done w. start p w))
    (state_run limit (core_setting p) code k)
