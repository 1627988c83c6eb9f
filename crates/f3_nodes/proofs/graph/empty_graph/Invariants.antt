use Rattle.std.proofs.Common.{◌≡◌, ℕ, [], length}
use Rattle.f3_nodes.specs.Nodes.{targets_of}
use Rattle.f3_nodes.proofs.graph.empty_graph.Given as goal

abbrev pub invariant-loop-node : goal.invariant-loop-node
invariant-loop-node l = (length l.graph.items ≡ l._node) × ((a : ℕ) → targets_of l.graph.items a ≡ [])
