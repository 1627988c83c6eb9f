use Rattle.f3_begin_laws.proofs.Passing.{dummies_are_laid, dummies_are_passed}
use Rattle.f3_begin_laws.proofs.dummies_are_passed.Goals as goal

pub returns-clause-laid : goal.returns-clause-laid
returns-clause-laid c = dummies_are_laid

pub returns-clause-passed : goal.returns-clause-passed
returns-clause-passed c = dummies_are_passed
