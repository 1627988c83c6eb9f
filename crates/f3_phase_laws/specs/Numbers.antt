-- The rules on types and definitions number units, procedures and entities as the tables of names do.
use Rattle.std.specs.Prelude.{◌≡◌, ℕ, List, Some, map, slice_get}
use Rattle.std.specs.List.{All}
use Rattle.f3_access.specs.Access.{entities_of, first_entity}
use Rattle.f3_names.specs.Parts.{scope_numbers}
use Rattle.f3_scopes.specs.Outlines.{Scope}
use Rattle.f3_scopes.specs.Scopes.{scope_of_unit, scope_of_procedure, procedure_own, scopes_of}
use Rattle.f3_tree.specs.Tree.{Tree}
use Rattle.f3_type_rules.specs.Members.{Member, Numbered, units_from}

-- the units of a program, each with its procedures, by the numbers of their scopes and entities
abbrev pub units_of : Tree → List Numbered
units_of t = units_from (scopes_of t) 0 t.units

-- the units have the numbers that the tables of names give them
abbrev pub UnitsHaveTheirNumbers : Type 0
UnitsHaveTheirNumbers = (t : Tree) → map (λ (u : Numbered). u.scope) (units_of t) ≡ scope_numbers 0 t.units

-- Of a procedure of the unit of this number: its scope, the first entity there, and its own entity stand among those of the program
-- under these numbers.
pub record IsProcedure (scopes : List Scope) (unit : ℕ) (m : Member) : Type 0 where
  pub scope : slice_get scopes m.scope ≡ Some (scope_of_procedure unit m.tree)
  pub first : m.first ≡ first_entity scopes m.scope
  pub entity : slice_get (entities_of scopes) m.entity ≡ Some (procedure_own m.tree)

-- the same of a unit, all of whose procedures are there in their order
pub record IsUnit (scopes : List Scope) (u : Numbered) : Type 0 where
  pub scope : slice_get scopes u.scope ≡ Some (scope_of_unit u.tree)
  pub first : u.first ≡ first_entity scopes u.scope
  pub procedures : map (λ (m : Member). m.tree) u.members ≡ (u.tree).procedures
  pub members : All (IsProcedure scopes u.scope) u.members

-- all units of the program are there in their order
abbrev pub UnitsAreThose : Type 0
UnitsAreThose = (t : Tree) → (map (λ (u : Numbered). u.tree) (units_of t) ≡ t.units) × All (IsUnit (scopes_of t)) (units_of t)
