use Rattle.f3_word_needs.proofs.Memory.{memory_is_as_large}
use Rattle.f3_word_needs.proofs.laws.memory_is_as_large.Goals as goal

pub returns : goal.returns
returns c = memory_is_as_large
