-- Program units as the code keeps them.
use Rattle.std.specs.Prelude.{List, map}
use Rattle.f3_graph.specs.declared.unit.UnitUses.{UnitUses}
use Rattle.f3_graph.specs.Units.{Node}

abbrev pub node_view : UnitUses → Node
node_view u = record { kind = u.kind; name = u.name; uses = u.uses.items }

abbrev pub nodes_view : List UnitUses → List Node
nodes_view units = map node_view units
