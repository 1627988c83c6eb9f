-- When tables of names are those of a program.
use Rattle.std.specs.Prelude.{◌≡◌, ℕ, List, [], Option, None, Some, map, slice_get, string_bytes}
use Rattle.f3_tree.specs.Tree.{Tree}
use Rattle.f3_scopes.specs.Outlines.{Scope, scope_view}
use Rattle.f3_scopes.specs.Scopes.{scopes_of}
use Rattle.f3_lookups.specs.declared.lookup.Visible.{Visible}
use Rattle.f3_lookups.specs.declared.lookup.Lookup.{Lookup}
use Rattle.f3_access.specs.Access.{IsVisible}
use Rattle.f3_access.specs.Tables.{exports_of, lookup_of, host_of}
use Rattle.f3_names.specs.declared.entity.Entity.{Entity}
use Rattle.f3_names.specs.declared.table.Names.{Names}
use Rattle.f3_names.specs.Holders.{outermost}
pub use Rattle.f3_names.specs.Parts.{scope_numbers}
use Rattle.f3_names.specs.Parts.{AreNamesOf}

-- the scopes of a program
abbrev pub outlined : Names → List Scope
outlined names = map scope_view names.outlines.items

-- the entities of a program, and the texts of its names in lower case
abbrev pub entities_of : Names → List Entity
entities_of names = names.entities.items

abbrev pub texts_of : Names → List (List ℕ)
texts_of names = map string_bytes names.texts.keys

-- the scopes, the entities, what each scope sees, the texts of the names and the numbers of the units are the program's
abbrev pub AreNames : Tree → Names → Type 0
AreNames t names = AreNamesOf t (outlined names) (entities_of names) names.tables (texts_of names) names.units.items

-- what the tables have for a name of a scope
abbrev pub lookup_at : Names → ℕ → ℕ → Lookup
lookup_at names scope symbol = lookup_of names.tables scope symbol

-- the number of the scope of the unit that holds a scope
abbrev pub unit_at : Names → ℕ → ℕ
unit_at names scope = outermost (host_of names.tables) scope

-- what a unit exports
abbrev pub exports_in : Names → Option ℕ → List Visible
exports_in names None = []
exports_in names (Some scope) = exports_of names.tables scope

abbrev pub exports_at : Names → ℕ → List Visible
exports_at names unit = exports_in names (slice_get names.units.items unit)

-- The entity is visible in the scope under the name of this text in lower case.
abbrev pub IsVisibleAs : Tree → ℕ → List ℕ → ℕ → Type 0
IsVisibleAs t scope text entity = (symbol : ℕ) × (slice_get t.names symbol ≡ Some text) × IsVisible (scopes_of t) scope symbol entity
