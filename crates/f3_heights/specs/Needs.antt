-- Numbers that say of each line how many cells its procedure needs, or its routine with those that it may run; told line by line.
use Rattle.std.specs.Prelude.{⊤, ◌≡◌, ◌≤◌, ℕ, ◌+◌, ◌-◌, true, nat_eq, List, [], ◌∷◌, length, Option, Some, None, slice_get}
use Rattle.f3_code.specs.declared.instruction.Instruction.{Instruction}
use Rattle.f3_code.specs.declared.instruction.Instruction.TheVariants as i
use Rattle.f3_code.specs.State.{Line, Code}
use Rattle.f3_heights.specs.Effect.{Far, Effect, effect}

-- the next line, where an instruction leads there, has the same number
abbrev pub KeptNext : (mark : ℕ → ℕ) → ℕ → Option ℕ → Type 0
KeptNext mark pc None = ⊤
KeptNext mark pc (Some left) = mark (pc + 1) ≡ mark pc

-- and so has each line farther on
abbrev pub KeptFar : (mark : ℕ → ℕ) → ℕ → List Far → Type 0
KeptFar mark pc [] = ⊤
KeptFar mark pc (x ∷ xs) = (mark (pc + 1 + x.over) ≡ mark pc) × KeptFar mark pc xs

pub record Kept (mark : ℕ → ℕ) (pc : ℕ) (e : Effect) : Type 0 where
  pub next : KeptNext mark pc e.next
  pub far : KeptFar mark pc e.far

-- the lines to which an instruction leads within its procedure or routine have its number
abbrev pub IsKept : (mark : ℕ → ℕ) → ℕ → Instruction → Type 0
IsKept mark pc (i.GoBack d) = mark (pc - d) ≡ mark pc
IsKept mark pc i.Back = ⊤
IsKept mark pc x = Kept mark pc (effect x)

-- the routine of a type, found as the machine does, finds room above the cells of the line that runs it
abbrev pub RoutineHasRoom : (height needs : ℕ → ℕ) → ℕ → ℕ → List ℕ → Type 0
RoutineHasRoom height needs pc t [] = ⊤
RoutineHasRoom height needs pc t (at ∷ pcs) = (nat_eq t (length pcs) ≡ true → needs at + height pc ≤ needs pc) × RoutineHasRoom height needs pc t pcs

-- The needs are those of a code with these heights.
pub record AreNeeds (height needs : ℕ → ℕ) (code : Code) : Type 0 where
  pub low : (pc : ℕ) → height pc ≤ needs pc
  pub lines : (pc : ℕ) (l : Line) → slice_get code.lines pc ≡ Some l → IsKept needs pc l.act
  pub routines : (pc : ℕ) (l : Line) (t : ℕ) → slice_get code.lines pc ≡ Some l → l.act ≡ i.Routine t → RoutineHasRoom height needs pc t code.routines
