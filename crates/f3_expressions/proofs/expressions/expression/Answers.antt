use Rattle.f3_expressions.specs.Grammar.{EatsExpression}
use Rattle.f3_expressions.proofs.expressions.expression.Goals as goal

pub returns-clause-read : goal.returns-clause-read
unfolding EatsExpression
returns-clause-read c = c.operation.ensures.read
