use Rattle.f3_call_steps.proofs.Returning.{result_given}
use Rattle.f3_call_steps.proofs.returns.result_of.Goals as goal

pub returns : goal.returns
returns c = result_given c.args.variable c.in_ok-value.value c.go_on_with.result c.args.state.now c.go_on_with.new.self (c.in_ok-value.ensures {u = tt})
    c.go_on_with.ensures.with
