use Rattle.std.proofs.Common.{take}
use Rattle.f3_rules.specs.Least.{Least}
use Rattle.f3_graph.specs.Inner.Links.{CyclesIn}
use Rattle.f3_nodes.specs.Levels.{AreLevels}
use Rattle.f3_graph.proofs.breaks.first_cycle.Given as goal

abbrev pub invariant-loop-link : goal.invariant-loop-link
invariant-loop-link l = Least l.first (CyclesIn l.graph (take l.link-index l.links)) × AreLevels l.graph l.levels.items
