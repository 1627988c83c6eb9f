use Rattle.f3_word_needs.proofs.Keeping.{levels_are_few}
use Rattle.f3_word_needs.proofs.laws.levels_are_few.Goals as goal

pub returns : goal.returns
returns c = levels_are_few
