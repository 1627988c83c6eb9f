use Rattle.std.proofs.Common.{◌≡◌, ◌++◌, map, drop, length}
use Rattle.f3_scopes.specs.Scopes.{scopes_from}
use Rattle.f3_tree.specs.Tree.{unit_view}
use Rattle.f3_scopes.specs.Outlines.{scope_view}
use Rattle.f3_scopes.proofs.scopes.outlines.Given as goal

abbrev pub invariant-loop-unit : goal.invariant-loop-unit
invariant-loop-unit l = map scope_view l.found.items ++ scopes_from (length l.found.items) (map unit_view (drop l.unit-index l.unit-items)) ≡ scopes_from 0 (map unit_view l.fn.program.units.items)
