use Rattle.std.proofs.Common.{refl}
use Rattle.f3_call_steps.proofs.Associations.{left_so}
use Rattle.f3_call_steps.proofs.associates.leave_with.Goals as goal

pub returns : goal.returns
returns c = left_so c.args.level c.args.flow c.go_on_with.result c.args.state.now (record c.args.state.now { store = c.leave.new.self }) c.go_on_with.new.self
    refl c.leave.ensures c.go_on_with.ensures.with
