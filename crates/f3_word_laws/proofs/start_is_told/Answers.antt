use Rattle.f3_word_laws.proofs.Telling.{start_is_told}
use Rattle.f3_word_laws.proofs.start_is_told.Goals as goal

pub returns : goal.returns
returns c = start_is_told
