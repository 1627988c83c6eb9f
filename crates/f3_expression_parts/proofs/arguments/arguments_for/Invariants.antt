use Rattle.std.proofs.Common.{◌≡◌, map}
use Rattle.f3_elaboration.specs.Views.{argument_view}
use Rattle.f3_expression_parts.specs.Parts.{given_of}
use Rattle.f3_expression_parts.proofs.Lists.{each, argument_at}
use Rattle.f3_expression_parts.proofs.arguments.arguments_for.Given as goal

abbrev pub invariant-loop-given : goal.invariant-loop-given
invariant-loop-given l = map argument_view l.found.items ≡ each (argument_at l.dummies.entries) 0 (map given_of l.yielded)
