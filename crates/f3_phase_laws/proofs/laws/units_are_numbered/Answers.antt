use Rattle.f3_phase_laws.proofs.Numbers as numbers
use Rattle.f3_phase_laws.proofs.laws.units_are_numbered.Goals as goal

pub returns-clause-numbers : goal.returns-clause-numbers
returns-clause-numbers c = numbers.numbers

pub returns-clause-units : goal.returns-clause-units
returns-clause-units c = numbers.units
