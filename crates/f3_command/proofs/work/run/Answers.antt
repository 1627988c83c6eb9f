use Rattle.f3_command.proofs.Parts.{ran_so, not_run}
use Rattle.f3_command.proofs.work.run.Goals as goal

pub returns-in-Ok : goal.returns-in-Ok
returns-in-Ok g c = ran_so c.args.sources.now c.args.limits _ _ _ c.in-Ok.end c.flushed.result c.in-Ok.ensures c.flushed.ensures

pub returns-in-Err : goal.returns-in-Err
returns-in-Err g c = rw c.outcome.ensures (not_run c.args.sources.now c.args.limits _ _ c.in-Err.fault c.in-Err.ensures)
