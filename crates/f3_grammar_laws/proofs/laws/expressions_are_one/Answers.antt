use Rattle.f3_grammar_laws.proofs.Ones.{levels, expressions, designators, argument_lists}
use Rattle.f3_grammar_laws.proofs.laws.expressions_are_one.Goals as goal

pub returns-clause-levels : goal.returns-clause-levels
returns-clause-levels c = levels

pub returns-clause-expressions : goal.returns-clause-expressions
returns-clause-expressions c = (expressions, designators, argument_lists)
