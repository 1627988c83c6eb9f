use Rattle.std.proofs.Common.{arith, false}
use Rattle.f3_room_frames.proofs.BareLaws.{type_told, no_type}
use Rattle.f3_room_frames.proofs.bare.is_bare.Goals as goal

pub returns-then-number-bare : goal.returns-then-number-bare
returns-then-number-bare c = λ ts told. rw c.in-Derived.is (no_type ts c.args.bare.now c.in-Derived.number told (omega arith))

pub returns-else-number-bare : goal.returns-else-number-bare
returns-else-number-bare c = λ ts told. rw c.in-Derived.is (type_told ts c.args.bare.now c.in-Derived.number false told (omega arith))
