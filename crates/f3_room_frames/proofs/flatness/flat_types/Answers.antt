use Rattle.std.proofs.Common.{arith}
use Rattle.f3_room_frames.proofs.Flats.{next_flat}
use Rattle.f3_room_frames.proofs.flatness.flat_types.Goals as goal

pub loop-one-preserved : goal.loop-one-preserved
loop-one-preserved c = next_flat c.args.types.now c.loop-one.one-index c.one-item.result c.deref-in-loop-one.result.now c.loop-one.flat.items c.deref.result.now _ c.are_flat-is.result
    (omega arith) c.one-item.is c.deref-in-loop-one.ensures.value c.deref.ensures.value c.loop-one.invariant c.are_flat-is.ensures c.in_ok-push.ensures.items
