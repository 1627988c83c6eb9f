use Rattle.f3_room_frames.proofs.Changing.{rooms_change, changes_are_sound}
use Rattle.f3_room_frames.proofs.changes.changes_are_sound.Goals as goal

pub returns-clause-rooms : goal.returns-clause-rooms
returns-clause-rooms c = rooms_change

pub returns-clause-sound : goal.returns-clause-sound
returns-clause-sound c = changes_are_sound
