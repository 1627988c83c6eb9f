use Rattle.f3_word_control.proofs.Lines.{stops}
use Rattle.f3_word_control.proofs.Does.{stopped}
use Rattle.f3_word_control.proofs.constructs.stop.Goals as goal

pub returns-clause-does : goal.returns-clause-does
returns-clause-does c = λ p live t l x told there is h. stops p l t is (λ rest. stopped p l t rest _)
