use Rattle.f3_word_account.proofs.Leaving.{nothing_leaks}
use Rattle.f3_word_account.proofs.nothing_leaks.Goals as goal

pub returns : goal.returns
returns c = nothing_leaks
