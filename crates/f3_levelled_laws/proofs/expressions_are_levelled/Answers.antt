use Rattle.f3_levelled_laws.proofs.Expressions.{expression}
use Rattle.f3_levelled_laws.proofs.Units.{levelled}
use Rattle.f3_levelled_laws.proofs.expressions_are_levelled.Goals as goal

pub returns-clause-expressions : goal.returns-clause-expressions
returns-clause-expressions c = expression

pub returns-clause-bodies : goal.returns-clause-bodies
returns-clause-bodies c = levelled
