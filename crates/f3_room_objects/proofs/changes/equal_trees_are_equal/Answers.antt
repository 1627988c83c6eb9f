use Rattle.f3_room_objects.proofs.Values.{equal_trees_are_equal}
use Rattle.f3_room_objects.proofs.changes.equal_trees_are_equal.Goals as goal

pub returns : goal.returns
returns c = equal_trees_are_equal
