use Rattle.f3_text.proofs.Computed.{cuts_so}
use Rattle.f3_text.proofs.cut.cuts_so.Goals as goal

pub returns : goal.returns
returns c = cuts_so
