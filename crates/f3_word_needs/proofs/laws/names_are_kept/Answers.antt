use Rattle.f3_word_needs.proofs.Kept.{names_are_kept}
use Rattle.f3_word_needs.proofs.laws.names_are_kept.Goals as goal

pub returns : goal.returns
returns c = names_are_kept
