use Rattle.std.proofs.Common.{◌≡◌, ◌++◌, map}
use Rattle.std.specs.Vec.Iter.{into_iter_items}
use Rattle.f3_elaboration.specs.Expressions.{given_value}
use Rattle.f3_elaboration.specs.Views.{expression_view}
use Rattle.f3_expression_parts.specs.Parts.{given_of}
use Rattle.f3_meant_nodes.proofs.values.given_values.Given as goal

abbrev pub invariant-loop-given : goal.invariant-loop-given
invariant-loop-given l =
    map expression_view l.found.items ++ map given_value (map given_of (into_iter_items l.given-iterator))
    ≡ map given_value (map given_of l.fn.list.items)
