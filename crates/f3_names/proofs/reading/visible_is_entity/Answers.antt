use Rattle.f3_names.proofs.Counting.{visible_entity}
use Rattle.f3_names.proofs.reading.visible_is_entity.Goals as goal

pub returns : goal.returns
returns c = visible_entity
