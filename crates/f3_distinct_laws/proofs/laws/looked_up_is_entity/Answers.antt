use Rattle.f3_distinct_laws.proofs.Entities.{looked_up_entity}
use Rattle.f3_distinct_laws.proofs.laws.looked_up_is_entity.Goals as goal

pub returns : goal.returns
returns c = looked_up_entity
