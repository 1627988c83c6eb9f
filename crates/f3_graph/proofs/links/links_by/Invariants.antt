use Rattle.std.proofs.Common.{◌≡◌, ◌++◌, drop, nat_eq}
use Rattle.indexmap.specs.IndexMap.{get}
use Rattle.f3_graph.specs.Inner.Links.{links_from}
use Rattle.f3_graph.specs.Inner.Views.{nodes_view}
use Rattle.f3_graph.proofs.links.links_by.Given as goal

abbrev pub invariant-loop-number : goal.invariant-loop-number
invariant-loop-number l = l.links.items ++ links_from (get nat_eq l.modules) l.number (nodes_view (drop l.number l.units)) ≡ links_from (get nat_eq l.modules) 0 (nodes_view l.units)
