use Rattle.std.proofs.Common.{length}
use Rattle.f3_room_writing.proofs.bounds.+have_words.Given as goal

abbrev pub decreases-have_words : goal.decreases-have_words
decreases-have_words l = length l.spans.now
