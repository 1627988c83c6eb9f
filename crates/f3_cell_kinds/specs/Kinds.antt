-- Of which kinds the cells of an activation are at each line of a code.
use Rattle.std.specs.Prelude.{⊤, ◌≡◌, ℕ, ◌+◌, ◌-◌, true, List, [], ◌∷◌, ◌++◌, length, Option, Some, None, slice_get}
use Rattle.f3_program.specs.declared.declarations.Base.TheVariants as base
use Rattle.f3_program.specs.declared.program.Procedure.{Procedure}
use Rattle.f3_program.specs.declared.program.Program.{Program}
use Rattle.f3_meaning_whole.specs.Exec.{declared_in}
use Rattle.f3_meaning_whole.specs.Formed.{of_kind, kinds_of}
use Rattle.f3_code.specs.declared.instruction.Instruction.{Instruction}
use Rattle.f3_code.specs.declared.instruction.Instruction.TheVariants as i
use Rattle.f3_code.specs.State.{Line, Entry, Code}
use Rattle.f3_cell_kinds.specs.Types.{Told, InRoutine, CellType, Object, Site}
use Rattle.f3_cell_kinds.specs.Effect.{Way, Far, Effect, Does, declared_kind, truth}

-- where a way leads, above the cells that stay
abbrev pub arrived : Site → Way → List CellType → Site
arrived s w rest = record { is_reached = true; returns = s.returns; scope = w.scope; cells = w.left ++ rest }

abbrev pub IsNext : (sites : ℕ → Site) → ℕ → List CellType → Option Way → Type 0
IsNext sites pc rest None = ⊤
IsNext sites pc rest (Some w) = sites (pc + 1) ≡ arrived (sites pc) w rest

abbrev pub AreFar : (sites : ℕ → Site) → ℕ → List CellType → List Far → Type 0
AreFar sites pc rest [] = ⊤
AreFar sites pc rest (x ∷ xs) = (sites (pc + 1 + x.over) ≡ arrived (sites pc) x.to rest) × AreFar sites pc rest xs

-- The cells that an instruction takes stand there, and what it leaves stands where it leads.
pub record Leads (sites : ℕ → Site) (pc : ℕ) (e : Effect) : Type 0 where
  -- which cells stay
  pub rest : List CellType
  pub before : (sites pc).cells ≡ e.takes ++ rest
  pub next : IsNext sites pc rest e.next
  pub far : AreFar sites pc rest e.far

-- the site where a procedure begins
abbrev pub first_site : Procedure → Site
first_site q = record {
  is_reached = true;
  returns = declared_kind q.result;
  scope = Told (record { variables = declared_in q; names = kinds_of q.dummies.items; selected = None });
  cells = [];
}

-- the site where the main program begins, which has no dummies and no result
abbrev pub main_site : Procedure → Site
main_site q = record {
  is_reached = true;
  returns = truth;
  scope = Told (record { variables = declared_in q; names = []; selected = None });
  cells = [];
}

-- the site where the routine of a type begins, by its number
abbrev pub routine_site : ℕ → Site
routine_site t = record {
  is_reached = true;
  returns = of_kind (base.Derived t) 0;
  scope = InRoutine;
  cells = Object (of_kind (base.Derived t) 0) ∷ [];
}

-- each procedure begins with its site, and has the variables and dummies that are declared
abbrev pub ProceduresBegin : (sites : ℕ → Site) → List Procedure → List Entry → Type 0
ProceduresBegin sites [] [] = ⊤
ProceduresBegin sites (q ∷ qs) (e ∷ es) = (sites e.at ≡ first_site q) × (e.variables ≡ declared_in q) × (e.dummies ≡ q.dummies.items)
    × ProceduresBegin sites qs es
ProceduresBegin sites qs es = ⊥

-- and each routine with its own, the newest first
abbrev pub RoutinesBegin : (sites : ℕ → Site) → List ℕ → Type 0
RoutinesBegin sites [] = ⊤
RoutinesBegin sites (pc ∷ pcs) = (sites pc ≡ routine_site (length pcs)) × RoutinesBegin sites pcs

module _ (p : Program) where
  abbrev pub Goes : (sites : ℕ → Site) → ℕ → Line → Instruction → Type 0
  Goes sites pc l (i.GoBack d) = sites (pc - d) ≡ sites pc
  Goes sites pc l i.Back = (sites pc).cells ≡ Object (sites pc).returns ∷ []
  Goes sites pc l x = Does p (sites pc) l.value x (Leads sites pc)

  -- a line, where a way leads to it
  abbrev pub IsAt : (sites : ℕ → Site) → ℕ → Line → Type 0
  IsAt sites pc l = (sites pc).is_reached ≡ true → Goes sites pc l l.act

  -- The sites are those of the code of a program: at each line; and where the main program, the procedures and the routines begin.
  pub record AreKinds (sites : ℕ → Site) (code : Code) : Type 0 where
    pub lines : (pc : ℕ) (l : Line) → slice_get code.lines pc ≡ Some l → IsAt sites pc l
    pub main : sites 0 ≡ main_site p.main
    pub procedures : ProceduresBegin sites p.procedures.items code.procedures
    pub routines : RoutinesBegin sites code.routines
