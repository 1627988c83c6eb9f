use Rattle.f3_fitted_laws.proofs.Words.{words}
use Rattle.f3_fitted_laws.proofs.values_are_words.Goals as goal

pub returns : goal.returns
returns c = words
