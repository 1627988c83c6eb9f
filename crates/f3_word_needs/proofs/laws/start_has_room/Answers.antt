use Rattle.f3_word_needs.proofs.Keeping.{start_has_room}
use Rattle.f3_word_needs.proofs.laws.start_has_room.Goals as goal

pub returns : goal.returns
returns c = start_has_room
