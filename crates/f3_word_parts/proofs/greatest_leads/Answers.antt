use Rattle.f3_word_parts.proofs.Greatest.{greatest_leads}
use Rattle.f3_word_parts.proofs.greatest_leads.Goals as goal

pub returns : goal.returns
returns c = greatest_leads
