use Rattle.f3_command.proofs.Parts.{lists_so, not_listed}
use Rattle.f3_command.proofs.work.code.Goals as goal

pub returns-in-Ok : goal.returns-in-Ok
returns-in-Ok g c = lists_so c.args.sources.now c.in-Ok.text _ _ c.shown.result c.in-Ok.ensures (rw c.as_str.ensures.value at c.shown.ensures)

pub returns-in-Err : goal.returns-in-Err
returns-in-Err g c = rw c.outcome.ensures (not_listed c.args.sources.now _ c.in-Err.fault c.in-Err.ensures)
