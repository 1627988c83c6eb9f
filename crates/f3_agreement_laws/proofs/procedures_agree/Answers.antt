use Rattle.f3_agreement_laws.proofs.Procedures as procedures
use Rattle.f3_agreement_laws.proofs.procedures_agree.Goals as goal

pub returns-clause-subroutines : goal.returns-clause-subroutines
returns-clause-subroutines c = procedures.subroutines

pub returns-clause-functions : goal.returns-clause-functions
returns-clause-functions c = procedures.functions
