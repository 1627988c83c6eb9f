use Rattle.f3_granted_laws.proofs.Granting.{runs_are_granted, states_are_granted}
use Rattle.f3_granted_laws.proofs.Following.{programs_are_granted}
use Rattle.f3_granted_laws.proofs.requests_are_granted.Goals as goal

pub returns-clause-runs : goal.returns-clause-runs
returns-clause-runs c = runs_are_granted

pub returns-clause-programs : goal.returns-clause-programs
returns-clause-programs c = programs_are_granted

pub returns-clause-states : goal.returns-clause-states
returns-clause-states c = states_are_granted
