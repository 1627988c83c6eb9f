use Rattle.std.proofs.Common.{◌≡◌, ◌+◌, ◌*◌, take, length, map}
use Rattle.f3_meaning_whole.specs.Shape.{shapes_of}
use Rattle.f3_data.specs.Values.{values_of}
use Rattle.f3_shaping.specs.Results.{component_value}
use Rattle.f3_shaping.proofs.initial.+initial.Given as goal

abbrev pub decreases-initial : goal.decreases-initial
decreases-initial l = length l.types.now * 3

abbrev pub decreases-initial_declared : goal.decreases-initial_declared
decreases-initial_declared l = length l.types.now * 3 + 1

abbrev pub decreases-initial_parts : goal.decreases-initial_parts
decreases-initial_parts l = length l.types.now * 3 + 2

abbrev pub invariant-initial_parts-loop-component : goal.invariant-initial_parts-loop-component
invariant-initial_parts-loop-component l = values_of l.values.items ≡ map (component_value (shapes_of l.types)) (take l.component-index l.components)
