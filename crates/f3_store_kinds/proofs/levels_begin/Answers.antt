use Rattle.f3_store_kinds.proofs.Reading.{levels_begin}
use Rattle.f3_store_kinds.proofs.levels_begin.Goals as goal

pub returns : goal.returns
returns c = levels_begin
