use Rattle.std.proofs.Common.{◌≡◌, false, replicate}
use Rattle.f3_nodes.specs.Inner.Search.{Searches}
use Rattle.f3_nodes.proofs.Searching.{work}
use Rattle.f3_nodes.proofs.search.is_reached.Given as goal

abbrev pub invariant-loop-each : goal.invariant-loop-each
invariant-loop-each l = l.seen.items ≡ replicate l._each-index false

abbrev pub invariant-loop-node : goal.invariant-loop-node
invariant-loop-node l = Searches l.uses l.from l.seen.items l.todo.items

abbrev pub decreases-loop-node : goal.decreases-loop-node
decreases-loop-node l = work (l.seen.items, l.todo.items)
