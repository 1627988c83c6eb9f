use Rattle.f3_store_kinds.proofs.Agreeing.{ways_agree}
use Rattle.f3_store_kinds.proofs.ways_agree.Goals as goal

pub returns : goal.returns
returns c = ways_agree
