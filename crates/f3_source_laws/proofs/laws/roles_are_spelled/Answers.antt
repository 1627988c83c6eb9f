use Rattle.f3_source_laws.proofs.Roles.{spelled, roles}
use Rattle.f3_source_laws.proofs.laws.roles_are_spelled.Goals as goal

pub returns-clause-spelled : goal.returns-clause-spelled
returns-clause-spelled c = spelled

pub returns-clause-all : goal.returns-clause-all
returns-clause-all c = roles
