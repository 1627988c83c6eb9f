use Rattle.std.proofs.Common.{◌≡◌, ◌++◌, replicate}
use Rattle.f3_room_frames.proofs.beginning.add_copies.Given as goal

abbrev pub invariant-loop-each : goal.invariant-loop-each
invariant-loop-each l = l.words.items ≡ l.initial.words.items ++ replicate l._each l.word
