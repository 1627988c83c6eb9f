use Rattle.f3_room_frames.proofs.ScalarLaws.{variables_are_words}
use Rattle.f3_room_frames.proofs.laws.variables_are_words.Goals as goal

pub returns : goal.returns
returns c = variables_are_words
