use Rattle.std.proofs.Common.{◌≡◌, ◌++◌, map, drop}
use Rattle.f3_tree.specs.Expressions.{expression_view}
use Rattle.f3_elaboration.specs.Actions.{item}
use Rattle.f3_elaboration.specs.Views.{item_view}
use Rattle.f3_numbers.specs.Surroundings.{surroundings_of}
use Rattle.f3_action_nodes.proofs.prints.items.Given as goal

abbrev pub invariant-loop-e : goal.invariant-loop-e
invariant-loop-e l =
    map item_view l.found.items ++ map (item (surroundings_of l.from)) (map expression_view (drop l.e-index l.list))
    ≡ map (item (surroundings_of l.from)) (map expression_view l.list)
