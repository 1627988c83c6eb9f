use Rattle.f3_word_account.proofs.Owning.{live_blocks_are_owned}
use Rattle.f3_word_account.proofs.live_blocks_are_owned.Goals as goal

pub returns : goal.returns
returns c = live_blocks_are_owned
