use Rattle.f3_word_account.proofs.Activations.{activations_have_blocks}
use Rattle.f3_word_account.proofs.activations_have_blocks.Goals as goal

pub returns : goal.returns
returns c = activations_have_blocks
