use Rattle.f3_word_laws.proofs.Telling.{runs_are_told}
use Rattle.f3_word_laws.proofs.runs_are_told.Goals as goal

pub returns : goal.returns
returns c = runs_are_told
