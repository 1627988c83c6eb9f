use Rattle.std.proofs.Common.{◌≡◌, ◌++◌, map, drop}
use Rattle.f3_tree.specs.Tree.{unit_view}
use Rattle.f3_graph.specs.Units.{node_of}
use Rattle.f3_graph.specs.Inner.Views.{nodes_view}
use Rattle.f3_graph.proofs.unit.unit_uses.Given as goal

abbrev pub invariant-loop-unit : goal.invariant-loop-unit
invariant-loop-unit l =
    nodes_view l.list.items ++ map node_of (map unit_view (drop l.unit-index l.units)) ≡ map node_of (map unit_view l.units)
