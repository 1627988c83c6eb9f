use Rattle.f3_room_account.proofs.Leaving.{nothing_is_left}
use Rattle.f3_room_account.proofs.laws.nothing_is_left.Goals as goal

pub returns : goal.returns
returns c = nothing_is_left
