use Rattle.f3_units.proofs.Nesting as nesting
use Rattle.f3_units.proofs.laws.reads_units.Goals as goal

pub returns-clause-holds : goal.returns-clause-holds
returns-clause-holds c = nesting.spelled

pub returns-clause-reads : goal.returns-clause-reads
returns-clause-reads c = nesting.units_read

pub returns-clause-goes_on : goal.returns-clause-goes_on
returns-clause-goes_on c = nesting.viable
