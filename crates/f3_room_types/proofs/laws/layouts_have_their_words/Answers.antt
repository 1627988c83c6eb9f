use Rattle.f3_room_objects.proofs.Planting.{width_for}
use Rattle.f3_room_types.proofs.laws.layouts_have_their_words.Goals as goal

pub returns : goal.returns
returns c = width_for
