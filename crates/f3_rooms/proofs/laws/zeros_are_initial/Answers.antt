use Rattle.f3_rooms.proofs.Zeros.{zeros_are_blank}
use Rattle.f3_rooms.proofs.Initial.{blank_is_initial}
use Rattle.f3_rooms.proofs.laws.zeros_are_initial.Goals as goal

pub returns-clause-zeros : goal.returns-clause-zeros
returns-clause-zeros c = zeros_are_blank

pub returns-clause-initial : goal.returns-clause-initial
returns-clause-initial c = blank_is_initial
