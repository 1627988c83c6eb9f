use Rattle.f3_command.proofs.Parts.{handed_on, not_handed_on}
use Rattle.f3_command.proofs.work.flushed.Goals as goal

pub returns-in-Ok : goal.returns-in-Ok
returns-in-Ok g c = λ p limits before h. handed_on p limits before _ _ c.args.end h c.in-Ok.ensures.all

pub returns-in-Err : goal.returns-in-Err
returns-in-Err g c = λ p limits before h. not_handed_on p limits before _ _ c.args.end h c.in-Err.ensures.refused
