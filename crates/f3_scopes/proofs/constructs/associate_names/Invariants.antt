use Rattle.std.proofs.Common.{◌≡◌, ◌++◌, map, drop}
use Rattle.f3_tree.specs.Statements.{association_view}
use Rattle.f3_scopes.specs.Outlines.{own_view}
use Rattle.f3_scopes.specs.Scopes.{association_own}
use Rattle.f3_scopes.proofs.constructs.associate_names.Given as goal

abbrev pub invariant-loop-association : goal.invariant-loop-association
invariant-loop-association l = map own_view l.found.items ++ map association_own (map association_view (drop l.association-index l.list)) ≡ map association_own (map association_view l.list)
