use Rattle.f3_kind_laws.proofs.Procedures.{subroutines, functions, own_results}
use Rattle.f3_kind_laws.proofs.procedures_have_dummies.Goals as goal

pub returns-clause-subroutines : goal.returns-clause-subroutines
returns-clause-subroutines c = subroutines

pub returns-clause-functions : goal.returns-clause-functions
returns-clause-functions c = functions

pub returns-clause-results : goal.returns-clause-results
returns-clause-results c = own_results
