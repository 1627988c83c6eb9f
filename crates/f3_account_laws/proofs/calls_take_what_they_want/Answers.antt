use Rattle.f3_account_laws.proofs.Taking as taking
use Rattle.f3_account_laws.proofs.calls_take_what_they_want.Goals as goal

pub returns : goal.returns
returns c = taking.calls_take_what_they_want
