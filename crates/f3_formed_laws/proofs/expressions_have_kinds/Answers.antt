use Rattle.f3_formed_laws.proofs.InMemory.{expressions_have, variables_have}
use Rattle.f3_formed_laws.proofs.expressions_have_kinds.Goals as goal

pub returns-clause-values : goal.returns-clause-values
returns-clause-values c = expressions_have

pub returns-clause-variables : goal.returns-clause-variables
returns-clause-variables c = variables_have
