use Rattle.std.proofs.Common.{◌≡◌, ◌++◌, map, drop}
use Rattle.std.specs.List.{flat_map}
use Rattle.f3_scopes.specs.Outlines.{own_view}
use Rattle.f3_scope_rules.specs.Inner.Rows.{variable_name}
use Rattle.f3_scope_rules.proofs.protected.variable_names.Given as goal

abbrev pub invariant-loop-declaration : goal.invariant-loop-declaration
invariant-loop-declaration l = l.names.items ++ flat_map variable_name (map own_view (drop l.declaration-index l.declared)) ≡ flat_map variable_name (map own_view l.declared)
