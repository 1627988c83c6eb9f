use Rattle.f3_word_calls.proofs.Associated.{associated_do, some_going, some_level}
use Rattle.f3_word_calls.proofs.associates.associated.Goals as goal

pub returns-in_default-clause-does : goal.returns-in_default-clause-does
returns-in_default-clause-does c = λ p live t l x told there is st.
    absurd (some_going p live c.args.state.now x t l told there is st c.pop_going.new.state c.in_default.ensures.taken)

pub returns-in_default-pop_level-clause-does : goal.returns-in_default-pop_level-clause-does
returns-in_default-pop_level-clause-does c = λ p live t l x told there is st.
    absurd (some_level p live c.args.state.now x t l told there is st c.in-Some.flow _ c.in-Some.ensures.taken c.pop_level.new.state
    c.in_default-pop_level.ensures.taken)

pub returns-clause-does : goal.returns-clause-does
returns-clause-does c = λ p live t l x told there is st.
    associated_do p live c.args.state.now x t l told there is st c.in-Some.flow _ c.in-Some.ensures.taken c.in-Some-pop_level.level c.in-Some-pop_level.objects _
    c.in-Some-pop_level.ensures.taken _ _ _ c.push.ensures c.push-2.ensures c.go_on_with.ensures
