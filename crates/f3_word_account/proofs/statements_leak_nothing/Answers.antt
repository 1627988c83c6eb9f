use Rattle.f3_word_account.proofs.Statements.{statements_leak_nothing}
use Rattle.f3_word_account.proofs.statements_leak_nothing.Goals as goal

pub returns : goal.returns
returns c = statements_leak_nothing
