use Rattle.std.proofs.Common.{◌≡◌, ◌++◌, map, drop}
use Rattle.f3_scopes.specs.Scopes.{using}
use Rattle.f3_tree.specs.Declarations.{use_view}
use Rattle.f3_scopes.specs.Outlines.{using_view}
use Rattle.f3_scopes.proofs.walk.usings.Given as goal

abbrev pub invariant-loop-statement : goal.invariant-loop-statement
invariant-loop-statement l = map using_view l.found.items ++ map using (map use_view (drop l.statement-index l.list)) ≡ map using (map use_view l.list)
