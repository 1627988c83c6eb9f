use Rattle.f3_words.proofs.Computed.{computed}
use Rattle.f3_words.proofs.law.examples.Goals as goal

pub returns : goal.returns
returns c = computed
