use Rattle.f3_phase_laws.proofs.Program.{rules_tell}
use Rattle.f3_phase_laws.proofs.laws.rules_tell_phases.Goals as goal

pub returns : goal.returns
returns c = rules_tell
