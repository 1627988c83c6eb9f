-- Program units, and the modules that they use.
use Rattle.std.specs.Prelude.{◌≡◌, ℕ, List, ◌++◌, map, Contains}
use Rattle.std.specs.List.{flat_map}
use Rattle.f3_tree.specs.declared.expression.Name.{Name}
use Rattle.f3_tree.specs.declared.program.UnitKind.{UnitKind}
use Rattle.f3_tree.specs.declared.program.UnitKind.TheVariants.{Module}
use Rattle.f3_tree.specs.Declarations.{PartTree}
use Rattle.f3_tree.specs.Tree.{UnitTree, ProcedureTree, Tree}

-- what of a program unit counts here: what it is, its name, and the names in its USE statements in the order written,
-- those of its procedures among them
pub record Node : Type 0 where
  pub kind : UnitKind
  pub name : Name
  pub uses : List Name

-- the modules that a specification part uses
abbrev pub used_in : PartTree → List Name
used_in part = map (λ u. u.from) part.uses

abbrev pub used_in_procedure : ProcedureTree → List Name
used_in_procedure p = used_in p.part

abbrev pub node_of : UnitTree → Node
node_of u = record { kind = u.kind; name = u.name; uses = used_in u.part ++ flat_map used_in_procedure u.procedures }

abbrev pub nodes_of : Tree → List Node
nodes_of t = map node_of t.units

-- the names in the USE statements of a unit
abbrev pub uses_of : Node → List Name
uses_of unit = unit.uses

-- one of the units is a module of this name
abbrev pub IsModuleNamed : List Node → ℕ → Node → Type 0
IsModuleNamed units n unit = Contains units unit × (unit.kind ≡ Module) × (unit.name.symbol ≡ n)

-- a USE in a module named a names b
abbrev pub Uses : List Node → ℕ → ℕ → Type 0
Uses units a b = (unit : Node) × IsModuleNamed units a unit × (x : Name) × Contains (uses_of unit) x × (x.symbol ≡ b)

-- The module named a reaches the one named b by one USE or several, also through its procedures' USE; modules of one
-- name count as one (ISO/IEC 1539-1:2004, 11.2.1: a module shall not reference itself, directly or indirectly).
pub data Reaches (units : List Node) : ℕ → ℕ → Type 0 where
  at_once : (a b : ℕ) → Uses units a b → Reaches units a b
  through : (a b c : ℕ) → Uses units a b → Reaches units b c → Reaches units a c
