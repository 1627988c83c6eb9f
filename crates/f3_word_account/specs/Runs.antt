-- What is in use at statements of the main program.
use Rattle.std.specs.Prelude.{⊤, ◌≡◌, ℕ, ◌+◌, List, [], ◌∷◌, length, Some, slice_get}
use Rattle.f3_program.specs.declared.program.Program.{Program}
use Rattle.f3_code.specs.declared.instruction.Instruction.TheVariants as i
use Rattle.f3_code.specs.State.{Line}
use Rattle.f3_code.specs.Lower.{lowered_program}
use Rattle.f3_code.specs.Code.{main_code}
use Rattle.f3_cell_kinds.specs.Types.{CellType}
use Rattle.f3_cell_kinds.specs.Types as cell
use Rattle.f3_cell_kinds.specs.Holds.{Fits}
use Rattle.f3_cell_kinds.specs.Laws.{site_at}
use Rattle.f3_word_cells.specs.Scenes.{code_of}
use Rattle.f3_word_cells.specs.Does.{IsTold}
use Rattle.f3_word_needs.specs.Room.{HasRoom}
use Rattle.f3_word_account.specs.Laws.{Always, AreTwo, HoldsNone}

-- cells that hold no values, where no ASSOCIATE is open
abbrev pub IsIdle : CellType → Type 0
IsIdle (cell.Level ks) = ⊥
IsIdle x = HoldsNone x

abbrev pub AreIdle : List CellType → Type 0
AreIdle [] = ⊤
AreIdle (x ∷ xs) = IsIdle x × AreIdle xs

-- In each state of a run, where no procedure is active and such cells are known at the line, nothing else is in use.
abbrev pub LinesLeakNothing : Type 0
LinesLeakNothing = Always (λ p m w x t. Fits p.types.items (site_at p) t → HasRoom p t → t.frames ≡ [] → AreIdle (site_at p t.pc).cells → AreTwo p m w t)

-- no ASSOCIATE is open
abbrev pub HasNoLevel : List CellType → Type 0
HasNoLevel [] = ⊤
HasNoLevel (cell.Level ks ∷ xs) = ⊥
HasNoLevel (x ∷ xs) = HasNoLevel xs

-- So it is where a statement begins that stands in no ASSOCIATE.
abbrev pub StatementsLeakNothing : Type 0
StatementsLeakNothing = Always (λ p m w x t. IsTold p t → HasRoom p t → t.frames ≡ [] → (l : Line) → slice_get (code_of p).lines t.pc ≡ Some l
    → l.act ≡ i.Begin → HasNoLevel (site_at p t.pc).cells → AreTwo p m w t)

-- The last line of the main program, where its run ends.
abbrev pub IsEnd : Program → ℕ → Type 0
IsEnd p pc = pc + 1 ≡ length (main_code (length (lowered_program p).routines) (lowered_program p).main)

abbrev pub EndsLeakNothing : Type 0
EndsLeakNothing = Always (λ p m w x t. IsTold p t → HasRoom p t → t.frames ≡ [] → IsEnd p t.pc → AreTwo p m w t)
