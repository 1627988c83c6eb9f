use Rattle.f3_phase_laws.proofs.Program.{late}
use Rattle.f3_phase_laws.proofs.Order.{early_stand}
use Rattle.f3_phase_laws.proofs.laws.breaks_have_late_phases.Goals as goal

pub returns-clause-phases : goal.returns-clause-phases
returns-clause-phases c = late

pub returns-clause-order : goal.returns-clause-order
returns-clause-order c = early_stand
