use Rattle.std.proofs.Common.{rules}
use Rattle.f3_tree.specs.Expressions.{expression_view}
use Rattle.f3_reading.proofs.Elements.{at_tokens}
use Rattle.f3_reading.proofs.Choices.{perhaps_reads}
use Rattle.f3_expressions.specs.Grammar.{EatsExpression}
use Rattle.f3_actions.specs.Actions.{EatsStepPerhaps}
use Rattle.f3_actions.proofs.constructs.step_perhaps.Goals as goal

pub returns : goal.returns
unfolding EatsStepPerhaps
returns c = perhaps_reads EatsExpression expression_view c.perhaps.ensures.read (λ us one k. at_tokens EatsExpression expression_view k.shown.now us one k.shows (search rules))
