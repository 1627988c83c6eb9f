use Rattle.std.proofs.Common.{◌≡◌, map}
use Rattle.f3_elaboration.specs.Actions.{bounds}
use Rattle.f3_elaboration.specs.Views.{bounds_view}
use Rattle.f3_expression_parts.specs.Parts.{given_of}
use Rattle.f3_action_nodes.proofs.requests.dimensions.Given as goal

abbrev pub invariant-loop-given : goal.invariant-loop-given
invariant-loop-given l = map bounds_view l.found.items ≡ map bounds (map given_of l.yielded)
