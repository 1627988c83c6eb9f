use Rattle.f3_expressions.specs.Grammar.{EatsDesignator}
use Rattle.f3_expressions.proofs.designators.designator.Goals as goal

pub returns-clause-read : goal.returns-clause-read
unfolding EatsDesignator
returns-clause-read c = c.parts.ensures.read
