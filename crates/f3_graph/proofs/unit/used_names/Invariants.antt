use Rattle.std.proofs.Common.{◌≡◌, ◌++◌, map, drop}
use Rattle.std.specs.List.{flat_map}
use Rattle.f3_tree.specs.Tree.{unit_view, procedure_view}
use Rattle.f3_graph.specs.Units.{node_of, used_in_procedure}
use Rattle.f3_graph.proofs.unit.used_names.Given as goal

abbrev pub invariant-loop-procedure : goal.invariant-loop-procedure
invariant-loop-procedure l =
    l.names.items ++ flat_map used_in_procedure (map procedure_view (drop l.procedure-index l.procedure-items)) ≡ (node_of (unit_view l.unit)).uses
