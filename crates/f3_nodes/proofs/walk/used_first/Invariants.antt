use Rattle.std.proofs.Common.{◌≡◌, ◌<◌, ℕ, replicate, Contains}
use Rattle.f3_nodes.specs.declared.walk.Mark.TheVariants.{New}
use Rattle.f3_nodes.specs.Inner.Marks.{IsSettled, NoneOpen}
use Rattle.f3_nodes.proofs.walk.used_first.Given as goal

abbrev pub invariant-loop-unit : goal.invariant-loop-unit
invariant-loop-unit l = l.marks.items ≡ replicate l._unit-index New

abbrev pub invariant-loop-root : goal.invariant-loop-root
invariant-loop-root l = IsSettled l.uses l.marks.items l.order.items × NoneOpen l.marks.items × ((u : ℕ) → u < l.root → Contains l.order.items u)
