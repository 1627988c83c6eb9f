use Rattle.f3_spelled_laws.proofs.Units.{programs, modules}
use Rattle.f3_spelled_laws.proofs.programs_have_no_procedures.Goals as goal

pub returns-clause-programs : goal.returns-clause-programs
returns-clause-programs c = programs

pub returns-clause-modules : goal.returns-clause-modules
returns-clause-modules c = modules
