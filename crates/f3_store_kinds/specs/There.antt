-- Parts of objects that are there.
use Rattle.std.specs.Prelude.{⊤, ◌≡◌, ◌⊎◌, true, List, [], ◌∷◌}
use Rattle.f3_program.specs.declared.declarations.Kind.{Kind}
use Rattle.f3_meaning_whole.specs.Value.{Unallocated}
use Rattle.f3_meaning_whole.specs.Store.{Store, Path, get}
use Rattle.f3_meaning_whole.specs.Reference.{Reach, One, Many}
use Rattle.f3_meaning_whole.specs.Act.{Passed, Given, Lent}
use Rattle.f3_meaning_whole.specs.Formed as formed
use Rattle.f3_code.specs.State.{Cell}
use Rattle.f3_code.specs.State as state
use Rattle.f3_cell_kinds.specs.Types.{CellType}
use Rattle.f3_cell_kinds.specs.Types as cell

-- what stands at a path is not missing
abbrev pub PathThere : Store → Path → Type 0
PathThere store p = get store p ≡ Unallocated → ⊥

abbrev pub AllThere : Store → List Path → Type 0
AllThere store [] = ⊤
AllThere store (p ∷ ps) = PathThere store p × AllThere store ps

-- what is reached is an allocatable, allocated or not, or is there
abbrev pub ReachThere : Store → Kind → Path → Reach → Type 0
ReachThere store k p One = (k.is_allocatable ≡ true) ⊎ PathThere store p
ReachThere store k p (Many ss ps) = AllThere store ps

-- a variable that is passed
abbrev pub PassedThere : Store → formed.Given → Passed → Type 0
PassedThere store x (Given n v) = ⊤
PassedThere store x (Lent n r) = ReachThere store x.kind r.path r.reach

-- an object or an argument on the stack
abbrev pub CellThere : Store → CellType → Cell → Type 0
CellThere store (cell.Object k) (state.Object r) = ReachThere store k r.path r.reach
CellThere store (cell.Argument x) (state.Argument y) = PassedThere store x y
CellThere store x c = ⊤

abbrev pub CellsThere : Store → List CellType → List Cell → Type 0
CellsThere store (x ∷ xs) (c ∷ cs) = CellThere store x c × CellsThere store xs cs
CellsThere store xs cs = ⊤
