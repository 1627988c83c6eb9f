use Rattle.f3_store_kinds.proofs.Reading.{contents_lead}
use Rattle.f3_store_kinds.proofs.contents_lead.Goals as goal

pub returns : goal.returns
returns c = contents_lead
