-- What a walk over what is visible in a scope has left.
use Rattle.std.specs.Prelude.{ℕ, List, ◌++◌, Option, None, Some, []}
use Rattle.f3_lookups.specs.declared.lookup.Visible.{Visible}
use Rattle.f3_access.specs.declared.table.ScopeTable.{ScopeTable}
use Rattle.f3_access.specs.declared.pairs.VisiblePairs.{VisiblePairs}
use Rattle.f3_access.specs.Hosts.{outward}
use Rattle.f3_access.specs.Parts.{host_at, seen_in, seen_from}

-- the scope, where there is one, and all that are around it
abbrev pub outward_from : List ScopeTable → Option ℕ → List ℕ
outward_from tables None = []
outward_from tables (Some number) = outward (host_at tables) number

-- the pairs that are left of what is visible in the first scope: of these of the second, and of all scopes around that
abbrev pub seen_behind : List ScopeTable → ℕ → ℕ → List Visible → List Visible
seen_behind tables number other pairs =
    seen_in tables number other pairs ++ seen_from tables number (outward_from tables (host_at tables other))

abbrev pub pairs_left : VisiblePairs → List Visible
pairs_left w = seen_behind w.tables.now.scopes.items w.scope w.holder w.pairs.now
