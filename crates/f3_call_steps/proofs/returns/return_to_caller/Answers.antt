use Rattle.std.proofs.Common.{[], refl}
use Rattle.f3_call_steps.proofs.Returning.{no_datum, returned_by}
use Rattle.f3_call_steps.proofs.returns.return_to_caller.Goals as goal

pub returns-in_default : goal.returns-in_default
returns-in_default c = λ p limit g code v here. ([], c.in_default.ensures {u = tt} p _, refl)

pub returns-in_default-pop_datum : goal.returns-in_default-pop_datum
returns-in_default-pop_datum c = no_datum c.args.state.now c.args.state.now c.pop_objects.new.stack.items _ (c.in-Some.ensures {u = tt})
    (c.in_default-pop_datum.ensures {u = tt})

pub returns : goal.returns
returns c = returned_by c.args.state.now (record c.args.state.now { stack = c.pop_datum.new.stack }) c.go_back.new.state c.pop_objects.new.stack.items _ _
    c.go_back.result
    (c.in-Some.ensures {u = tt}) (c.in-Some-pop_datum.ensures {u = tt}) refl refl c.go_back.ensures
