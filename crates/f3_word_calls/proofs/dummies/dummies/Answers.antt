use Rattle.f3_word_calls.proofs.Nexts.{dummies_do}
use Rattle.f3_word_calls.proofs.dummies.dummies.Goals as goal

pub returns-clause-does : goal.returns-clause-does
returns-clause-does c = λ p live t l x told there is st. dummies_do p live c.args.state.now x t l told there st _ is c.go_on_with.ensures
