use Rattle.f3_word_needs.proofs.Asked.{associates_are_few}
use Rattle.f3_word_needs.proofs.laws.associates_are_few.Goals as goal

pub returns : goal.returns
returns c = associates_are_few
