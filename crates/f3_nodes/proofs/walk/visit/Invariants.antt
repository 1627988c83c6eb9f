use Rattle.std.proofs.Common.{◌≢◌, ℕ, ◌+◌, map, reverse, sum_by, Contains}
use Rattle.f3_nodes.specs.declared.walk.Mark.TheVariants.{New}
use Rattle.f3_nodes.specs.Inner.Marks.{Walks, fresh, left_of, mark}
use Rattle.f3_nodes.proofs.walk.visit.Given as goal

abbrev pub invariant-loop-unit : goal.invariant-loop-unit
invariant-loop-unit l =
    Walks l.uses l.marks.items l.order.items (reverse l.stack.items) × (mark l.marks.items l.root ≢ New) × ((u : ℕ) → Contains l.fn.order.items u → Contains l.order.items u)

abbrev pub decreases-loop-unit : goal.decreases-loop-unit
decreases-loop-unit l = fresh l.marks.items (map (λ v. v.items) l.uses) + sum_by (left_of l.uses) l.stack.items
