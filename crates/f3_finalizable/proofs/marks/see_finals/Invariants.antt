use Rattle.std.proofs.Common.{◌≡◌, drop, map}
use Rattle.f3_typed_parts.specs.Known.{nature_of}
use Rattle.f3_finalizable.specs.Inner.Marks.{see_finals}
use Rattle.f3_finalizable.proofs.marks.see_finals.Given as goal

abbrev pub invariant-loop-entity : goal.invariant-loop-entity
invariant-loop-entity l =
    see_finals (l.seen.items, l.todo.items) l.entity (map nature_of (drop l.entity l.things)) ≡ see_finals (l.fn.seen.items, l.fn.todo.items) 0 (map nature_of l.things)
