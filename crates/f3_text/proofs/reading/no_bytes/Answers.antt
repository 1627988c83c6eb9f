use Rattle.f3_text.proofs.Going.{spelled_none}
use Rattle.f3_text.proofs.reading.no_bytes.Goals as goal

pub returns : goal.returns
returns c = spelled_none _ _ c.in_ok-bytes.ensures.items c.in_ok-places.ensures.items
