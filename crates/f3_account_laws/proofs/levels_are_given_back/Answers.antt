use Rattle.f3_account_laws.proofs.Taking as taking
use Rattle.f3_account_laws.proofs.levels_are_given_back.Goals as goal

pub returns : goal.returns
returns c = taking.levels_are_given_back
