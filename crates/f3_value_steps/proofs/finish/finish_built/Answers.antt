use Rattle.f3_value_steps.proofs.Ends.{built_finishes}
use Rattle.f3_value_steps.proofs.finish.finish_built.Goals as goal

pub returns : goal.returns
returns c = built_finishes c.args.given c.finish.result c.args.state.now c.finish.new.state c.finish.ensures
