-- When the parts of a table of names are those of a program.
use Rattle.std.specs.Prelude.{◌≡◌, ℕ, ◌+◌, List, [], ◌∷◌, length}
use Rattle.f3_tree.specs.Tree.{UnitTree, Tree}
use Rattle.f3_scopes.specs.Outlines.{Scope}
use Rattle.f3_scopes.specs.Scopes.{unit_scopes, scopes_of}
use Rattle.f3_access.specs.declared.table.Tables.{Tables}
use Rattle.f3_access.specs.Tables.{AreTables}
use Rattle.f3_names.specs.declared.entity.Entity.{Entity}
use Rattle.f3_names.specs.Entities.{described}

-- the numbers of the units among the scopes, where the first unit has this one: the scopes within a unit come behind it
abbrev pub scope_numbers : ℕ → List UnitTree → List ℕ
scope_numbers number [] = []
scope_numbers number (u ∷ us) = number ∷ scope_numbers (number + length (unit_scopes number u)) us

-- the scopes, the entities, what each scope sees, the texts of the names and the numbers of the units are the program's
pub record AreNamesOf (t : Tree) (scopes_here : List Scope) (entities_here : List Entity) (tables_here : Tables)
    (texts_here : List (List ℕ)) (units_here : List ℕ) : Type 0 where
  pub scopes : scopes_here ≡ scopes_of t
  pub tables : AreTables (scopes_of t) tables_here
  pub entities : entities_here ≡ described (scopes_of t)
  pub texts : texts_here ≡ t.names
  pub units : units_here ≡ scope_numbers 0 t.units

-- there is a program of which they are
abbrev pub AreOfAProgram : List Scope → List Entity → Tables → List (List ℕ) → List ℕ → Type 0
AreOfAProgram scopes entities tables texts units = (t : Tree) × AreNamesOf t scopes entities tables texts units
