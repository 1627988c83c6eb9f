use Rattle.f3_expressions.specs.Grammar.{EatsArguments}
use Rattle.f3_expressions.proofs.arguments.arguments.Goals as goal

pub returns-clause-read : goal.returns-clause-read
unfolding EatsArguments
returns-clause-read c = c.within.ensures.read
