use Rattle.std.proofs.Common.{◌≡◌, ℕ, ◌++◌, drop, length}
use Rattle.f3_graph.specs.Inner.Links.{targets}
use Rattle.f3_nodes.specs.Nodes.{targets_of}
use Rattle.f3_graph.proofs.links.graph.Given as goal

abbrev pub invariant-loop-link : goal.invariant-loop-link
invariant-loop-link l = (length l.graph.items ≡ l.count) × ((a : ℕ) → targets_of l.graph.items a ++ targets (drop l.link-index l.links) a ≡ targets l.links a)
