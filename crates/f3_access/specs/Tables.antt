-- Tables as their callers see them.
use Rattle.std.specs.Prelude.{ℕ, List, Option, Bool, nat_eq, slice_get}
use Rattle.indexmap.specs.IndexMap.{get}
use Rattle.f3_scopes.specs.Outlines.{Scope}
use Rattle.f3_lookups.specs.declared.lookup.Visible.{Visible}
use Rattle.f3_lookups.specs.declared.lookup.Lookup.{Lookup}
use Rattle.f3_access.specs.declared.table.Tables.{Tables}
use Rattle.f3_access.specs.Parts.{own_at, exports_at, used_in, host_at, visible_at, lookup_at, private_in, AreTablesOf}

abbrev pub own_of : Tables → ℕ → List Visible
own_of tables number = own_at tables.scopes.items number

abbrev pub exports_of : Tables → ℕ → List Visible
exports_of tables number = exports_at tables.scopes.items number

abbrev pub used_of : Tables → ℕ → List ℕ
used_of tables number = used_in (slice_get tables.scopes.items number)

abbrev pub visible_of : Tables → ℕ → List Visible
visible_of tables number = visible_at tables.scopes.items number

abbrev pub lookup_of : Tables → ℕ → ℕ → Lookup
lookup_of tables number n = lookup_at tables.scopes.items number n

abbrev pub private_of : Tables → ℕ → ℕ → Bool
private_of tables number n = private_in (slice_get tables.accesses.items number) n

-- the number of the module of this name
abbrev pub module_of : Tables → ℕ → Option ℕ
module_of tables symbol = get nat_eq tables.modules symbol

-- the number of the scope around this one
abbrev pub host_of : Tables → ℕ → Option ℕ
host_of tables number = host_at tables.scopes.items number

-- the tables are those of these scopes
abbrev pub AreTables : List Scope → Tables → Type 0
AreTables scopes tables = AreTablesOf scopes tables.scopes.items tables.accesses.items (get nat_eq tables.modules)
