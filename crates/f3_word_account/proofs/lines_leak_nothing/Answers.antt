use Rattle.f3_word_account.proofs.Idle.{lines_leak_nothing}
use Rattle.f3_word_account.proofs.lines_leak_nothing.Goals as goal

pub returns : goal.returns
returns c = lines_leak_nothing
