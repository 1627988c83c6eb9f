use Rattle.f3_word_needs.proofs.Asked.{calls_are_few}
use Rattle.f3_word_needs.proofs.laws.calls_are_few.Goals as goal

pub returns : goal.returns
returns c = calls_are_few
