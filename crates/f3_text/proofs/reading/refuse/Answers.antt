use Rattle.std.proofs.Common.{refl}
use Rattle.f3_text.specs.Statements.{break_at}
use Rattle.f3_text.proofs.reading.refuse.Goals as goal

pub returns : goal.returns
unfolding break_at
returns c = record { place = refl; rule = refl; name = c.new.ensures.bytes }
