use Rattle.std.proofs.Common.{◌≡◌, ◌++◌, map, drop}
use Rattle.std.specs.List.{flat_map}
use Rattle.f3_scopes.specs.Outlines.{own_view}
use Rattle.f3_scope_rules.specs.Inner.Rows.{protected_name}
use Rattle.f3_scope_rules.proofs.protected.add_protected.Given as goal

abbrev pub invariant-loop-declaration : goal.invariant-loop-declaration
invariant-loop-declaration l = l.names.items ++ flat_map protected_name (map own_view (drop l.declaration-index l.declared)) ≡ l.fn.names.items ++ flat_map protected_name (map own_view l.declared)
