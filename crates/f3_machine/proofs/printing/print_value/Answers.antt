use Rattle.std.proofs.Common.{ap}
use Rattle.f3_output.specs.Output.{state_of}
use Rattle.f3_data.specs.Values.{value_of}
use Rattle.f3_cells.specs.States as t
use Rattle.f3_machine.proofs.Printed.{nothing_there, value_printed, value_refused}
use Rattle.f3_machine.proofs.printing.print_value.Goals as goal

pub returns-in_default : goal.returns-in_default
returns-in_default g c = nothing_there c.args.state.now c.args.state.now (state_of g.W.Write.contents c.args.output.now) (state_of g.W.Write.contents
    c.args.output.now)
    (c.in_default.ensures {u = tt})

pub returns-in-Ok : goal.returns-in-Ok
returns-in-Ok g c = value_printed c.args.state.now c.advance.new.self _ _ (value_of c.in-Some.value) c.pop_datum.new.stack.items (c.in-Some.ensures {u = tt})
    (λ p. ap (t.state_of p) c.advance.ensures.is) (c.in-Ok.ensures {u = tt}).all

pub returns-in-Err : goal.returns-in-Err
returns-in-Err g c = value_refused c.args.state.now c.args.state.now _ _ (value_of c.in-Some.value) c.pop_datum.new.stack.items (c.in-Some.ensures {u = tt})
    (c.in-Err.ensures {u = tt}).front
