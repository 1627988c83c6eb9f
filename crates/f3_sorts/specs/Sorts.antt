-- Of which sorts the cells of an activation are at each line of a code.
use Rattle.std.specs.Prelude.{⊤, ◌≡◌, ℕ, ◌+◌, ◌-◌, List, [], ◌∷◌, ◌++◌, length, Option, Some, None, slice_get}
use Rattle.f3_code.specs.declared.instruction.Instruction.{Instruction}
use Rattle.f3_code.specs.declared.instruction.Instruction.TheVariants as i
use Rattle.f3_code.specs.State.{Line, Entry, Code, Cell, To, Frame, State}
use Rattle.f3_sorts.specs.Effect.{Sort, sort_of, Far, Effect, on, effect}
use Rattle.f3_sorts.specs.Effect as sort

-- ---- code, line by line. Cells of `sorts pc` stand where the line at `pc` begins, the one on top first; in the routine of a type
-- those beneath are not told, from the way back on.

-- what is left stands at the next line, above the cells that stay
abbrev pub IsNext : (sorts : ℕ → List Sort) → ℕ → List Sort → Option (List Sort) → Type 0
IsNext sorts pc rest None = ⊤
IsNext sorts pc rest (Some left) = sorts (pc + 1) ≡ left ++ rest

-- and so at each line farther on
abbrev pub AreFar : (sorts : ℕ → List Sort) → ℕ → List Sort → List Far → Type 0
AreFar sorts pc rest [] = ⊤
AreFar sorts pc rest (x ∷ xs) = (sorts (pc + 1 + x.over) ≡ x.left ++ rest) × AreFar sorts pc rest xs

-- The cells that an instruction takes stand there, and what it leaves stands where it leads.
pub record Leads (sorts : ℕ → List Sort) (pc : ℕ) (e : Effect) : Type 0 where
  -- which cells stay
  pub rest : List Sort
  pub before : sorts pc ≡ e.takes ++ rest
  pub next : IsNext sorts pc rest e.next
  pub far : AreFar sorts pc rest e.far

-- an instruction at a line
abbrev pub IsAt : (sorts : ℕ → List Sort) → ℕ → Instruction → Type 0
IsAt sorts pc (i.GoBack d) = sorts (pc - d) ≡ sorts pc
IsAt sorts pc i.Back = sorts pc ≡ sort.Object ∷ []
IsAt sorts pc i.Drop = (x : Sort) × Leads sorts pc (on (x ∷ []) [])
IsAt sorts pc (i.Unwind k) = (xs : List Sort) × (length xs ≡ k) × Leads sorts pc (on xs [])
IsAt sorts pc i.Swap = (x : Sort) × (y : Sort) × Leads sorts pc (on (x ∷ y ∷ []) (y ∷ x ∷ []))
IsAt sorts pc x = Leads sorts pc (effect x)

-- the routine of each type begins with its object
abbrev pub RoutinesBegin : (sorts : ℕ → List Sort) → List ℕ → Type 0
RoutinesBegin sorts [] = ⊤
RoutinesBegin sorts (pc ∷ pcs) = (sorts pc ≡ sort.Object ∷ []) × RoutinesBegin sorts pcs

-- The sorts are those of a code: at each line; and each procedure begins with no cell.
pub record AreSorts (sorts : ℕ → List Sort) (code : Code) : Type 0 where
  pub lines : (pc : ℕ) (l : Line) → slice_get code.lines pc ≡ Some l → IsAt sorts pc l.act
  pub procedures : (f : ℕ) (e : Entry) → slice_get code.procedures f ≡ Some e → sorts e.at ≡ []
  pub routines : RoutinesBegin sorts code.routines

-- ---- states

-- Cells of such sorts, and beneath them nothing; or else the way back of a routine, and beneath it the cells of the line to which it
-- leads, less the object.
abbrev pub Stand : (sorts : ℕ → List Sort) → List Sort → List Cell → Type 0
Stand sorts [] [] = ⊤
Stand sorts (x ∷ xs) [] = ⊥
Stand sorts [] (To back place ∷ below) = (rest : List Sort) × (sorts back ≡ sort.Object ∷ rest) × Stand sorts rest below
Stand sorts [] (c ∷ below) = ⊥
Stand sorts (x ∷ xs) (c ∷ below) = (sort_of c ≡ Some x) × Stand sorts xs below

-- each caller has the cells of the line where it goes on, less the value that it is given
abbrev pub FramesFit : (sorts : ℕ → List Sort) → List Frame → Type 0
FramesFit sorts [] = ⊤
FramesFit sorts (f ∷ fs) = (rest : List Sort) × (sorts f.pc ≡ sort.Datum ∷ rest) × Stand sorts rest f.stack × FramesFit sorts fs

-- A state has cells of the sorts that are told, in each activation.
pub record Fits (sorts : ℕ → List Sort) (s : State) : Type 0 where
  pub stack : Stand sorts (sorts s.pc) s.stack
  pub frames : FramesFit sorts s.frames

-- cells of such sorts on top of a stack
abbrev pub Tops : List Sort → List Cell → Type 0
Tops [] stack = ⊤
Tops (x ∷ xs) [] = ⊥
Tops (x ∷ xs) (c ∷ stack) = (sort_of c ≡ Some x) × Tops xs stack

-- an instruction finds the cells that it takes on top of a stack
abbrev pub Finds : Instruction → List Cell → Type 0
Finds i.Back stack = Tops (sort.Object ∷ []) stack
Finds i.Drop stack = (x : Sort) × Tops (x ∷ []) stack
Finds (i.Unwind k) stack = (xs : List Sort) × (length xs ≡ k) × Tops xs stack
Finds i.Swap stack = (x : Sort) × (y : Sort) × Tops (x ∷ y ∷ []) stack
Finds x stack = Tops (effect x).takes stack

-- what an instruction that finds its cells may lack all the same: a caller, or a routine that is to be left
abbrev pub Lacks : Instruction → State → Type 0
Lacks i.Outward s = s.frames ≡ []
Lacks i.Return s = s.frames ≡ []
Lacks i.Back s = (c : Cell) × (s.stack ≡ c ∷ [])
Lacks x s = ⊥

-- or there is no line
abbrev pub LineLacks : Option Line → State → Type 0
LineLacks None s = ⊤
LineLacks (Some l) s = Lacks l.act s
