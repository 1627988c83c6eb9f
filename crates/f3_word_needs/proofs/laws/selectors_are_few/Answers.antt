use Rattle.f3_word_needs.proofs.Keeping.{selectors_are_few}
use Rattle.f3_word_needs.proofs.laws.selectors_are_few.Goals as goal

pub returns : goal.returns
returns c = selectors_are_few
