use Rattle.f3_word_needs.proofs.Keeping.{lines_keep_room}
use Rattle.f3_word_needs.proofs.laws.lines_keep_room.Goals as goal

pub returns : goal.returns
returns c = lines_keep_room
