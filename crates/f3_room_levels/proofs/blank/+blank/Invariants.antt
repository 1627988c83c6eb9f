use Rattle.std.proofs.Common.{◌+◌, ◌*◌, length, drop}
use Rattle.f3_meaning_whole.specs.Shape.{shapes_of}
use Rattle.f3_room_levels.specs.Initial.{declared_each}
use Rattle.f3_room_levels.proofs.Zeros.{ZeroIfLeft}
use Rattle.f3_room_levels.proofs.blank.+blank.Given as goal

abbrev pub decreases-is_blank : goal.decreases-is_blank
decreases-is_blank l = length l.derived.now * 3

abbrev pub decreases-is_zero : goal.decreases-is_zero
decreases-is_zero l = length l.derived.now * 3 + 1

abbrev pub decreases-are_zero : goal.decreases-are_zero
decreases-are_zero l = length l.derived.now * 3 + 2

abbrev pub invariant-are_zero-loop-component : goal.invariant-are_zero-loop-component
invariant-are_zero-loop-component l = ZeroIfLeft (shapes_of l.derived) (drop l.component-index (declared_each l.components)) (declared_each l.components)
