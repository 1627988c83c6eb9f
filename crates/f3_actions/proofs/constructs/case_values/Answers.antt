use Rattle.std.proofs.Common.{rules}
use Rattle.f3_tree.specs.Statements.{case_view}
use Rattle.f3_reading.proofs.Elements.{list_reads, at_tokens}
use Rattle.f3_actions.specs.Actions.{EatsCase, AreCases}
use Rattle.f3_actions.proofs.constructs.case_values.Goals as goal

pub returns-clause-read : goal.returns-clause-read
unfolding AreCases
returns-clause-read c = list_reads EatsCase case_view c.list.ensures.read (λ us one k. at_tokens EatsCase case_view k.shown.now us one k.shows (search rules))
