use Rattle.f3_agreement_laws.proofs.Visible as visible
use Rattle.f3_agreement_laws.proofs.visible_is_no_associate.Goals as goal

pub returns : goal.returns
returns c = visible.no_associate
