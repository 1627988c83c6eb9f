use Rattle.f3_store_kinds.proofs.Reading.{elements_lead}
use Rattle.f3_store_kinds.proofs.elements_lead.Goals as goal

pub returns : goal.returns
returns c = elements_lead
