use Rattle.std.proofs.Common.{◌≡◌, List, take, true}
use Rattle.f3_meaning_whole.specs.Shape.{Shape, parts_in}
use Rattle.f3_rooms.specs.Flat.{are_flat}
use Rattle.f3_room_frames.specs.FlatTypes.{TellFlat}
use Rattle.f3_room_frames.proofs.flatness.are_flat.Given as goal

abbrev pub invariant-loop-component : goal.invariant-loop-component
invariant-loop-component l = (ts : List Shape) → TellFlat ts l.flat → are_flat (parts_in ts (take l.component-index l.components)) ≡ true
