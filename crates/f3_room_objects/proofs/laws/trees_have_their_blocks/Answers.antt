use Rattle.f3_room_objects.proofs.Growing.{trees_have_their_blocks}
use Rattle.f3_room_objects.proofs.laws.trees_have_their_blocks.Goals as goal

pub returns : goal.returns
returns c = trees_have_their_blocks
