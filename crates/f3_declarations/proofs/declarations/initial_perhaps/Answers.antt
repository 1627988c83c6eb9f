use Rattle.std.proofs.Common.{rules}
use Rattle.f3_tree.specs.Expressions.{expression_view}
use Rattle.f3_reading.proofs.Elements.{at_tokens}
use Rattle.f3_reading.proofs.Choices.{perhaps_reads}
use Rattle.f3_expressions.specs.Grammar.{EatsExpression}
use Rattle.f3_declarations.specs.Specifications.{EatsInitialPerhaps}
use Rattle.f3_declarations.proofs.declarations.initial_perhaps.Goals as goal

pub returns-clause-read : goal.returns-clause-read
unfolding EatsInitialPerhaps
returns-clause-read c = perhaps_reads EatsExpression expression_view c.perhaps.ensures.read (λ us one k. at_tokens EatsExpression expression_view k.shown.now us one k.shows (search rules))
