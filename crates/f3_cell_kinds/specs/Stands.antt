-- Objects that stand in the store as values of their kinds.
use Rattle.std.specs.Prelude.{⊤, ◌≡◌, ℕ, List, ◌∷◌, Option, Some, None}
use Rattle.f3_program.specs.declared.declarations.Derived.{Derived}
use Rattle.f3_program.specs.declared.declarations.Kind.{Kind}
use Rattle.f3_program.specs.declared.expression.Name.{Name}
use Rattle.f3_program.specs.declared.expression.Name.TheVariants as name
use Rattle.f3_program.specs.declared.program.Program.{Program}
use Rattle.f3_meaning_whole.specs.Store.{Store, Root, Static, Local, get}
use Rattle.f3_meaning_whole.specs.Reference.{held_at}
use Rattle.f3_meaning_whole.specs.Act.{Here, Passed, Given, Lent, whole}
use Rattle.f3_meaning_whole.specs.Formed.{kind_of_name}
use Rattle.f3_meaning_whole.specs.Formed as formed
use Rattle.f3_code.specs.State.{Cell, State}
use Rattle.f3_code.specs.State as state
use Rattle.f3_cell_kinds.specs.Types.{Scope, CellType, Site}
use Rattle.f3_cell_kinds.specs.Types as cell
use Rattle.f3_cell_kinds.specs.Holds.{IsOf, InScope}

-- where a variable stands; a dummy or an associate name stands elsewhere
abbrev pub root_of : Here → Name → Option Root
root_of here (name.Static n) = Some (Static n)
root_of here (name.Local n) = Some (Local here.level n)
root_of here (name.Lent n) = None

-- a variable that is passed
abbrev pub PassedStands : List Derived → Store → formed.Given → Passed → Type 0
PassedStands types store g (Given n v) = ⊤
PassedStands types store g (Lent n r) = IsOf types g.kind (held_at store r.path r.reach)

module _ (p : Program) (here : Here) (store : Store) where
  -- an object or an argument on the stack
  abbrev pub CellStands : CellType → Cell → Type 0
  CellStands (cell.Object k) (state.Object r) = IsOf p.types.items k (held_at store r.path r.reach)
  CellStands (cell.Argument g) (state.Argument x) = PassedStands p.types.items store g x
  CellStands x c = ⊤

  abbrev pub CellsStand : List CellType → List Cell → Type 0
  CellsStand (x ∷ xs) (c ∷ cs) = CellStands x c × CellsStand xs cs
  CellsStand xs cs = ⊤

  -- the variables that statements may name
  abbrev pub VariablesStand : Scope → Type 0
  VariablesStand c = (x : Name) (k : Kind) (t : Root) → kind_of_name p c.variables c.names x ≡ Some k → root_of here x ≡ Some t →
      IsOf p.types.items k (get store (whole t))

-- The objects and arguments on the stack of an activation, and its variables, stand in the store as values of their kinds.
pub record Stands (p : Program) (sites : ℕ → Site) (s : State) : Type 0 where
  pub cells : CellsStand p s.here s.world.store (sites s.pc).cells s.stack
  pub variables : InScope p.types.items (VariablesStand p s.here s.world.store) (sites s.pc).scope
