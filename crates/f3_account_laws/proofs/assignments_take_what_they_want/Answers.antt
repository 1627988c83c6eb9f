use Rattle.f3_account_laws.proofs.Placing as placing
use Rattle.f3_account_laws.proofs.assignments_take_what_they_want.Goals as goal

pub returns : goal.returns
returns c = placing.assignments_take_what_they_want
