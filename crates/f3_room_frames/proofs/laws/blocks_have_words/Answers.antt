use Rattle.f3_room_frames.proofs.Levels.{blocks_have_words}
use Rattle.f3_room_frames.proofs.laws.blocks_have_words.Goals as goal

pub returns : goal.returns
returns c = blocks_have_words
