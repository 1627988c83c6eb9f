-- How many cells of an activation stand at each line of a code.
use Rattle.std.specs.Prelude.{⊤, ◌≡◌, ℕ, zero, suc, ◌+◌, ◌-◌, List, [], ◌∷◌, Option, Some, None, slice_get}
use Rattle.f3_code.specs.declared.instruction.Instruction.{Instruction}
use Rattle.f3_code.specs.declared.instruction.Instruction.TheVariants as i
use Rattle.f3_code.specs.State.{Line, Entry, Code, Cell, To, Frame, State}
use Rattle.f3_heights.specs.Effect.{Far, Effect, effect}

-- ---- code, line by line. `height pc` cells stand where the line at `pc` begins; in the routine of a type those beneath are not
-- counted, from the way back on.

-- what is left stands at the next line, above so many cells that stay
abbrev pub IsNext : (height : ℕ → ℕ) → ℕ → ℕ → Option ℕ → Type 0
IsNext height pc rest None = ⊤
IsNext height pc rest (Some left) = height (pc + 1) ≡ left + rest

-- and so at each line farther on
abbrev pub AreFar : (height : ℕ → ℕ) → ℕ → ℕ → List Far → Type 0
AreFar height pc rest [] = ⊤
AreFar height pc rest (x ∷ xs) = (height (pc + 1 + x.over) ≡ x.left + rest) × AreFar height pc rest xs

-- The cells that an instruction takes stand there, and what it leaves stands where it leads.
pub record Leads (height : ℕ → ℕ) (pc : ℕ) (e : Effect) : Type 0 where
  -- how many cells stay
  pub rest : ℕ
  pub before : height pc ≡ e.takes + rest
  pub next : IsNext height pc rest e.next
  pub far : AreFar height pc rest e.far

-- an instruction at a line
abbrev pub IsAt : (height : ℕ → ℕ) → ℕ → Instruction → Type 0
IsAt height pc (i.GoBack d) = height (pc - d) ≡ height pc
IsAt height pc i.Back = height pc ≡ 1
IsAt height pc x = Leads height pc (effect x)

-- the routine of each type begins with its object
abbrev pub RoutinesBegin : (height : ℕ → ℕ) → List ℕ → Type 0
RoutinesBegin height [] = ⊤
RoutinesBegin height (pc ∷ pcs) = (height pc ≡ 1) × RoutinesBegin height pcs

-- The heights are those of a code: at each line; and each procedure begins with no cell.
pub record AreHeights (height : ℕ → ℕ) (code : Code) : Type 0 where
  pub lines : (pc : ℕ) (l : Line) → slice_get code.lines pc ≡ Some l → IsAt height pc l.act
  pub procedures : (f : ℕ) (e : Entry) → slice_get code.procedures f ≡ Some e → height e.at ≡ 0
  pub routines : RoutinesBegin height code.routines

-- ---- states

-- So many cells, and beneath them nothing; or else the way back of a routine, and beneath it the cells of the line to which it
-- leads, less the object.
abbrev pub Stand : (height : ℕ → ℕ) → ℕ → List Cell → Type 0
Stand height zero [] = ⊤
Stand height (suc h) [] = ⊥
Stand height zero (To back place ∷ below) = (h : ℕ) × (height back ≡ suc h) × Stand height h below
Stand height zero (c ∷ below) = ⊥
Stand height (suc h) (c ∷ below) = Stand height h below

-- each caller has the cells of the line where it goes on, less the value that it is given
abbrev pub FramesFit : (height : ℕ → ℕ) → List Frame → Type 0
FramesFit height [] = ⊤
FramesFit height (f ∷ fs) = (h : ℕ) × (height f.pc ≡ suc h) × Stand height h f.stack × FramesFit height fs

-- A state has the cells that the heights say, in each activation.
pub record Fits (height : ℕ → ℕ) (s : State) : Type 0 where
  pub stack : Stand height (height s.pc) s.stack
  pub frames : FramesFit height s.frames
