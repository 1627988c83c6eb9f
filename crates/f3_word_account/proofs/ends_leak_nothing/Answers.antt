use Rattle.f3_word_account.proofs.Ending.{ends_leak_nothing}
use Rattle.f3_word_account.proofs.ends_leak_nothing.Goals as goal

pub returns : goal.returns
returns c = ends_leak_nothing
