use Rattle.f3_word_needs.proofs.Keeping.{dummies_are_few}
use Rattle.f3_word_needs.proofs.laws.dummies_are_few.Goals as goal

pub returns : goal.returns
returns c = dummies_are_few
