use Rattle.std.proofs.Common.{◌≡◌, ◌++◌, map, drop}
use Rattle.f3_tree.specs.Expressions.{designator_view}
use Rattle.f3_elaboration.specs.Actions.{request}
use Rattle.f3_elaboration.specs.Views.{request_view}
use Rattle.f3_numbers.specs.Surroundings.{surroundings_of}
use Rattle.f3_action_nodes.proofs.requests.requests.Given as goal

abbrev pub invariant-loop-object : goal.invariant-loop-object
invariant-loop-object l =
    map request_view l.found.items ++ map (request (surroundings_of l.from)) (map designator_view (drop l.object-index l.list))
    ≡ map (request (surroundings_of l.from)) (map designator_view l.list)
