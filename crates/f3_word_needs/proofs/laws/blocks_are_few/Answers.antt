use Rattle.f3_word_needs.proofs.Kept.{blocks_are_few}
use Rattle.f3_word_needs.proofs.laws.blocks_are_few.Goals as goal

pub returns : goal.returns
returns c = blocks_are_few
