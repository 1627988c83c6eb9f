use Rattle.std.proofs.Common.{◌≡◌, ◌++◌, map, drop}
use Rattle.f3_scopes.specs.Outlines.{own_view}
use Rattle.f3_scope_rules.proofs.names.declared_names.Given as goal

abbrev pub invariant-loop-declaration : goal.invariant-loop-declaration
invariant-loop-declaration l = l.names.items ++ map (λ d. d.name) (map own_view (drop l.declaration-index l.declared)) ≡ map (λ d. d.name) (map own_view l.declared)
