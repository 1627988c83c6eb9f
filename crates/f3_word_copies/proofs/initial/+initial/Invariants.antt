use Rattle.std.proofs.Common.{◌+◌, ◌*◌, length, drop}
use Rattle.f3_room_places.specs.Places.{shapes}
use Rattle.f3_room_levels.specs.Initial.{declared_each}
use Rattle.f3_word_copies.proofs.Begun.{Seeks}
use Rattle.f3_word_copies.proofs.initial.+initial.Given as goal

abbrev pub decreases-object_word : goal.decreases-object_word
decreases-object_word l = length l.types.derived.now * 4

abbrev pub decreases-declared_word : goal.decreases-declared_word
decreases-declared_word l = length l.types.derived.now * 4 + 1

abbrev pub decreases-component_word : goal.decreases-component_word
decreases-component_word l = length l.types.derived.now * 4 + 2

abbrev pub invariant-component_word-loop-component : goal.invariant-component_word-loop-component
invariant-component_word-loop-component l = Seeks (shapes l.types) (declared_each l.components) l.number (drop l.component-index (declared_each l.components)) l.left
