use Rattle.std.proofs.Common.{◌≡◌, map}
use Rattle.std.specs.Vec.Iter.{into_iter_items}
use Rattle.f3_elaboration.specs.Expressions.{nested}
use Rattle.f3_elaboration.specs.Views.{expression_view}
use Rattle.f3_meant_nodes.proofs.intrinsics.nested.Given as goal

abbrev pub invariant-loop-x : goal.invariant-loop-x
invariant-loop-x l =
    nested l.operator l.of (expression_view l.found) (map expression_view (into_iter_items l.x-iterator))
    ≡ nested l.operator l.of (expression_view l.fn.first) (map expression_view l.fn.others.items)
