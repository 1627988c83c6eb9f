use Rattle.std.proofs.Common.{◌≡◌, map}
use Rattle.std.specs.Vec.Iter.{into_iter_items}
use Rattle.f3_elaboration.specs.Expressions.{along}
use Rattle.f3_elaboration.specs.Views.{designator_view}
use Rattle.f3_expression_parts.specs.Parts.{part_of}
use Rattle.f3_typed_parts.specs.Known.{context_of}
use Rattle.f3_meant_nodes.proofs.variables.along.Given as goal

abbrev pub invariant-loop-part : goal.invariant-loop-part
invariant-loop-part l =
    along (context_of l.known l.at) (designator_view l.found) l.reached (map part_of (into_iter_items l.part-iterator))
    ≡ along (context_of l.known l.at) (designator_view l.fn.before) l.fn.object (map part_of l.fn.parts.items)
