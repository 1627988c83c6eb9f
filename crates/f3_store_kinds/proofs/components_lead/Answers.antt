use Rattle.f3_store_kinds.proofs.Reading.{components_lead}
use Rattle.f3_store_kinds.proofs.components_lead.Goals as goal

pub returns : goal.returns
returns c = components_lead
