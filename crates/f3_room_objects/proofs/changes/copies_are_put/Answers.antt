use Rattle.f3_room_objects.proofs.Putting.{parts_are_ready, copies_are_put}
use Rattle.f3_room_objects.proofs.changes.copies_are_put.Goals as goal

pub returns-clause-ready : goal.returns-clause-ready
returns-clause-ready c = parts_are_ready

pub returns-clause-copied : goal.returns-clause-copied
returns-clause-copied c = copies_are_put
