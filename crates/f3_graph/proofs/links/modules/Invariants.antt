use Rattle.std.proofs.Common.{◌≡◌, ℕ, drop, nat_eq}
use Rattle.indexmap.specs.IndexMap.{get}
use Rattle.f3_graph.specs.Inner.Links.{last_module, module_of}
use Rattle.f3_graph.specs.Inner.Views.{nodes_view}
use Rattle.f3_graph.proofs.links.modules.Given as goal

abbrev pub invariant-loop-number : goal.invariant-loop-number
invariant-loop-number l = (n : ℕ) → last_module l.number (get nat_eq l.modules n) (nodes_view (drop l.number l.units)) n ≡ module_of (nodes_view l.units) n
