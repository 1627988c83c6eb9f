use Rattle.f3_word_needs.proofs.Keeping.{names_are_few}
use Rattle.f3_word_needs.proofs.laws.names_are_few.Goals as goal

pub returns : goal.returns
returns c = names_are_few
