use Rattle.std.proofs.Common.{◌≡◌, ◌+◌, ◌*◌, ◌%◌, ◌^◌, take, length, map}
use Rattle.f3_meaning_whole.specs.Shape.{shapes_of}
use Rattle.f3_code.specs.Account.{level_words}
use Rattle.f3_shaping.specs.Results.{component_value}
use Rattle.f3_requests.proofs.words.+initial_words.Given as goal

abbrev pub decreases-initial_words : goal.decreases-initial_words
decreases-initial_words l = length l.types.now * 3

abbrev pub decreases-declared_words : goal.decreases-declared_words
decreases-declared_words l = length l.types.now * 3 + 1

abbrev pub decreases-components_words : goal.decreases-components_words
decreases-components_words l = length l.types.now * 3 + 2

abbrev pub invariant-components_words-loop-component : goal.invariant-components_words-loop-component
invariant-components_words-loop-component l = l.total ≡ level_words (map (component_value (shapes_of l.types)) (take l.component-index l.components)) % 2 ^ 64
