use Rattle.f3_word_needs.proofs.Keeping.{callers_are_few}
use Rattle.f3_word_needs.proofs.laws.callers_are_few.Goals as goal

pub returns : goal.returns
returns c = callers_are_few
