use Rattle.std.proofs.Common.{◌+◌, ◌*◌, length, drop}
use Rattle.f3_room_places.specs.Places.{shapes}
use Rattle.f3_room_levels.specs.Initial.{declared_each}
use Rattle.f3_room_levels.proofs.Fits.{AllLeft}
use Rattle.f3_room_levels.proofs.fitting.+fitting.Given as goal

abbrev pub decreases-type_can_begin : goal.decreases-type_can_begin
decreases-type_can_begin l = length l.types.derived.now * 2

abbrev pub decreases-components_can_begin : goal.decreases-components_can_begin
decreases-components_can_begin l = length l.types.derived.now * 2 + 1

abbrev pub invariant-components_can_begin-loop-component : goal.invariant-components_can_begin-loop-component
invariant-components_can_begin-loop-component l = AllLeft (shapes l.types) (drop l.component-index (declared_each l.components)) (declared_each l.components)
