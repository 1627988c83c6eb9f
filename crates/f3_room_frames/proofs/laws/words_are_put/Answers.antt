use Rattle.f3_room_frames.proofs.ScalarLaws.{words_are_put}
use Rattle.f3_room_frames.proofs.laws.words_are_put.Goals as goal

pub returns : goal.returns
returns c = words_are_put
