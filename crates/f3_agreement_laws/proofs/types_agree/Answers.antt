use Rattle.f3_agreement_laws.proofs.Types as types
use Rattle.f3_agreement_laws.proofs.types_agree.Goals as goal

pub returns-clause-places : goal.returns-clause-places
returns-clause-places c = types.at_places

pub returns-clause-types : goal.returns-clause-types
returns-clause-types c = types.agree
