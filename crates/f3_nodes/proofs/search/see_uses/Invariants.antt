use Rattle.std.proofs.Common.{◌≡◌, drop, length}
use Rattle.f3_nodes.specs.Nodes.{targets_of}
use Rattle.f3_nodes.specs.Inner.Search.{see_all}
use Rattle.f3_nodes.proofs.search.see_uses.Given as goal

abbrev pub invariant-loop-next : goal.invariant-loop-next
invariant-loop-next l =
    (length l.seen.items ≡ length l.uses)
    × (see_all (l.seen.items, l.todo.items) (drop l.next-index l.next-items) ≡ see_all (l.fn.seen.items, l.fn.todo.items) (targets_of l.uses l.node))
    × (l.next-items ≡ targets_of l.uses l.node)
