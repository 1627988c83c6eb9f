use Rattle.std.proofs.Common.{map}
use Rattle.f3_typed_parts.specs.Known.{nature_of}
use Rattle.f3_finalizable.proofs.Spreading.{Spreads, work}
use Rattle.f3_finalizable.proofs.marks.marks.Given as goal

abbrev pub invariant-loop-entity : goal.invariant-loop-entity
invariant-loop-entity l = Spreads (map nature_of l.things) l.seen.items l.todo.items

abbrev pub decreases-loop-entity : goal.decreases-loop-entity
decreases-loop-entity l = work (l.seen.items, l.todo.items)
