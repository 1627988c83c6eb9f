use Rattle.f3_begin_laws.proofs.Beginning.{dummies_begin}
use Rattle.f3_begin_laws.proofs.dummies_begin.Goals as goal

pub returns : goal.returns
returns c = dummies_begin
