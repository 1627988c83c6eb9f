use Rattle.f3_finals.proofs.Ends.{unit_ends}
use Rattle.f3_finals.proofs.candidate.units_end_with_procedures.Goals as goal

pub returns : goal.returns
returns c = unit_ends
