use Rattle.std.proofs.Common.{◌≡◌, drop}
use Rattle.f3_finalizable.specs.Inner.Marks.{see_all}
use Rattle.f3_finalizable.proofs.marks.see_all.Given as goal

abbrev pub invariant-loop-entity : goal.invariant-loop-entity
invariant-loop-entity l = see_all (l.seen.items, l.todo.items) (drop l.entity-index l.list) ≡ see_all (l.fn.seen.items, l.fn.todo.items) l.list
