use Rattle.std.proofs.Common.{◌≡◌, ◌++◌, map, drop, length}
use Rattle.f3_scopes.specs.Scopes.{procedures_from}
use Rattle.f3_tree.specs.Tree.{procedure_view}
use Rattle.f3_scopes.specs.Outlines.{scope_view}
use Rattle.f3_scopes.proofs.scopes.add_procedures.Given as goal

abbrev pub invariant-loop-procedure : goal.invariant-loop-procedure
invariant-loop-procedure l =
    map scope_view l.found.items ++ procedures_from l.host (length l.found.items) (map procedure_view (drop l.procedure-index l.list))
    ≡ map scope_view l.fn.found.items ++ procedures_from l.host (length l.fn.found.items) (map procedure_view l.list)
