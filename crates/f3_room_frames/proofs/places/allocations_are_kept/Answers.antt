use Rattle.f3_room_frames.proofs.Holders.{allocations_are_kept}
use Rattle.f3_room_frames.proofs.places.allocations_are_kept.Goals as goal

pub returns : goal.returns
returns c = allocations_are_kept
