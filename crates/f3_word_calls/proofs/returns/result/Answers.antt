use Rattle.f3_word_calls.proofs.Resulting.{result_do, some_value}
use Rattle.f3_word_calls.proofs.returns.result.Goals as goal

pub returns-in_default-clause-does : goal.returns-in_default-clause-does
returns-in_default-clause-does c = λ p live t l x told there is st.
    absurd (some_value p live c.args.state.now x t l told there is st c.pop_datum.new.state c.in_default.ensures.taken)

pub returns-clause-does : goal.returns-clause-does
returns-clause-does c = λ p live t l x told there is st.
    result_do p live c.args.state.now x t l told there is st c.in-Some.value _ _ _ c.in-Some.ensures.taken (λ v. c.plain.ensures.value p live v)
    (λ k. c.plain.ensures.kind p k) c.plain.ensures.blocks c.go_on_with.ensures
