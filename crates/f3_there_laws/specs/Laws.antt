-- The laws of programs without allocatables.
use Rattle.std.specs.Prelude.{◌≡◌, ℕ, Bool, Some}
use Rattle.f3_program.specs.declared.program.Program.{Program}
use Rattle.f3_meaning_whole.specs.Formed.{IsWellFormed}
use Rattle.f3_code.specs.Code.{program_code}
use Rattle.f3_code.specs.Lower.{lowered_program}
use Rattle.f3_code.specs.State.{State}
use Rattle.f3_heights.specs.Room.{state_after}
use Rattle.f3_cell_kinds.specs.Holds.{Fits}
use Rattle.f3_cell_kinds.specs.Laws.{site_at}
use Rattle.f3_cell_kinds.specs.Sense.{MakesSense}
use Rattle.f3_cell_kinds.specs.Stands.{Stands}
use Rattle.f3_store_kinds.specs.Accords.{Accords}
use Rattle.f3_store_kinds.specs.There.{CellsThere}
use Rattle.f3_store_kinds.specs.Typing.{Typing}
use Rattle.f3_there_laws.specs.Plain.{HasNoAllocatables}

-- In each state of each run of a program without allocatables the parts are there to which the objects on the stack lead.
abbrev pub PlainPartsAreThere : Type 0
PlainPartsAreThere = (limit : ℕ) (p : Program) → HasNoAllocatables p → IsWellFormed p → MakesSense p → (answers : ℕ → Bool) (k : ℕ) (s : State) →
    state_after limit (lowered_program p) (program_code (lowered_program p)) answers k ≡ Some s →
    CellsThere s.world.store (site_at p s.pc).cells s.stack

-- So cells hold what their types say, objects stand, and references lead to objects of their kinds.
abbrev pub PlainRunsAccord : Type 0
PlainRunsAccord = (limit : ℕ) (p : Program) → HasNoAllocatables p → IsWellFormed p → MakesSense p → (answers : ℕ → Bool) (k : ℕ) (s : State) →
    state_after limit (lowered_program p) (program_code (lowered_program p)) answers k ≡ Some s →
    Fits p.types.items (site_at p) s × Stands p (site_at p) s × (g : Typing) × Accords p (site_at p) g s
