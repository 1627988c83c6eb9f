use Rattle.std.proofs.Common.{arith, false}
use Rattle.f3_room_frames.proofs.Flats.{type_flat, no_type}
use Rattle.f3_room_frames.proofs.flatness.is_flat.Goals as goal

pub returns-then-number-flat : goal.returns-then-number-flat
returns-then-number-flat c = λ ts told. rw c.in-Derived.is (no_type ts c.args.flat.now c.in-Derived.number told (omega arith))

pub returns-else-number-flat : goal.returns-else-number-flat
returns-else-number-flat c = λ ts told. rw c.in-Derived.is (type_flat ts c.args.flat.now c.in-Derived.number false told (omega arith))
