use Rattle.f3_room_objects.proofs.Growing.{parts_are_apart, parts_hold_trees}
use Rattle.f3_room_objects.proofs.laws.parts_hold_trees.Goals as goal

pub returns-clause-apart : goal.returns-clause-apart
returns-clause-apart c = parts_are_apart

pub returns-clause-holds : goal.returns-clause-holds
returns-clause-holds c = parts_hold_trees
