use Rattle.std.proofs.Common.{take}
use Rattle.f3_meaning_whole.specs.Shape.{shapes_of}
use Rattle.f3_room_frames.specs.FlatTypes.{TellFlat}
use Rattle.f3_room_frames.proofs.flatness.flat_types.Given as goal

abbrev pub invariant-loop-one : goal.invariant-loop-one
invariant-loop-one l = TellFlat (shapes_of (take l.one-index l.types)) l.flat.items
