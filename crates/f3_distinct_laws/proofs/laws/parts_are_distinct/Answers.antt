use Rattle.f3_distinct_laws.proofs.Distinct.{parts_distinct}
use Rattle.f3_distinct_laws.proofs.laws.parts_are_distinct.Goals as goal

pub returns : goal.returns
returns c = parts_distinct
