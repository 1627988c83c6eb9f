use Rattle.f3_machine.proofs.Printed.{byte_printed, byte_refused}
use Rattle.f3_machine.proofs.printing.print_byte.Goals as goal

pub returns-in-Ok : goal.returns-in-Ok
returns-in-Ok g c = byte_printed c.args.state.now c.advance.new.self _ _ c.args.byte c.advance.ensures.is (c.in-Ok.ensures {u = tt}).all

pub returns-in-Err : goal.returns-in-Err
returns-in-Err g c = byte_refused c.args.state.now c.args.state.now _ _ c.args.byte (c.in-Err.ensures {u = tt}).front
