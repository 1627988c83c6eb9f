use Rattle.f3_word_laws.proofs.Coming.{runs_go_on}
use Rattle.f3_word_laws.proofs.runs_go_on.Goals as goal

pub returns : goal.returns
returns c = runs_go_on
