use Rattle.f3_word_calls.proofs.Outward.{outward_do, outward_lost}
use Rattle.f3_word_calls.proofs.dummies.outward.Goals as goal

pub returns-in_default-clause-does : goal.returns-in_default-clause-does
returns-in_default-clause-does c = λ p live t l x told there is st. outward_lost p live c.args.state.now x t l told there st is c.in_default.ensures

pub returns-clause-does : goal.returns-clause-does
returns-clause-does c = λ p live t l x told there is st.
    outward_do p live c.args.state.now x t l told there st c.in-Some.caller c.in-Some.ensures.0 c.in-Some.ensures.1 _ is c.go_on_with.ensures
