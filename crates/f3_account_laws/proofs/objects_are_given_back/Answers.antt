use Rattle.f3_account_laws.proofs.Placing as placing
use Rattle.f3_account_laws.proofs.objects_are_given_back.Goals as goal

pub returns : goal.returns
returns c = placing.objects_are_given_back
