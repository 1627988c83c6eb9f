use Rattle.std.proofs.Common.{◌≡◌, ◌++◌, map, drop}
use Rattle.f3_scopes.specs.Outlines.{part_view}
use Rattle.f3_scope_rules.specs.ScopeBreaks.{component_names}
use Rattle.f3_scope_rules.proofs.names.component_names.Given as goal

abbrev pub invariant-loop-part : goal.invariant-loop-part
invariant-loop-part l = l.names.items ++ component_names (map part_view (drop l.part-index l.parts)) ≡ component_names (map part_view l.parts)
