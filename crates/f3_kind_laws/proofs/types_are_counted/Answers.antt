use Rattle.f3_kind_laws.proofs.Ordered.{ordered}
use Rattle.f3_kind_laws.proofs.Types.{counted}
use Rattle.f3_kind_laws.proofs.types_are_counted.Goals as goal

pub returns-clause-units : goal.returns-clause-units
returns-clause-units c = ordered

pub returns-clause-types : goal.returns-clause-types
returns-clause-types c = counted
