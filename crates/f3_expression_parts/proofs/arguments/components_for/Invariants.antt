use Rattle.std.proofs.Common.{◌≡◌, map}
use Rattle.f3_elaboration.specs.Views.{argument_view}
use Rattle.f3_expression_parts.specs.Parts.{given_of}
use Rattle.f3_expression_parts.proofs.Lists.{each, component_at}
use Rattle.f3_expression_parts.proofs.arguments.components_for.Given as goal

abbrev pub invariant-loop-given : goal.invariant-loop-given
invariant-loop-given l = map argument_view l.found.items ≡ each (component_at l.components.entries) 0 (map given_of l.yielded)
