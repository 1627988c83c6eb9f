use Rattle.std.proofs.Common.{◌≡◌, ◌++◌, map, take}
use Rattle.f3_room_frames.specs.Initial.{initial_word, AreOf}
use Rattle.f3_room_frames.proofs.beginning.add_all.Given as goal

abbrev pub invariant-loop-value : goal.invariant-loop-value
invariant-loop-value l = AreOf l.of (take l.value-index l.values) × (l.words.items ≡ l.initial.words.items ++ map (initial_word l.of) (take l.value-index l.values))
