use Rattle.std.proofs.Common.{◌≡◌, ◌++◌, map, drop}
use Rattle.f3_scopes.specs.Scopes.{procedure_own}
use Rattle.f3_tree.specs.Tree.{procedure_view}
use Rattle.f3_scopes.specs.Outlines.{own_view}
use Rattle.f3_scopes.proofs.scopes.procedure_names.Given as goal

abbrev pub invariant-loop-procedure : goal.invariant-loop-procedure
invariant-loop-procedure l = map own_view l.found.items ++ map procedure_own (map procedure_view (drop l.procedure-index l.list)) ≡ map own_view l.fn.found.items ++ map procedure_own (map procedure_view l.list)
