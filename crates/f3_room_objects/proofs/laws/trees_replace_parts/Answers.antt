use Rattle.f3_room_objects.proofs.Replacing.{trees_replace_parts}
use Rattle.f3_room_objects.proofs.laws.trees_replace_parts.Goals as goal

pub returns : goal.returns
returns c = trees_replace_parts
