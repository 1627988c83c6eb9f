use Rattle.std.proofs.Common.{length}
use Rattle.f3_word_entries.proofs.holding.+hold.Given as goal

abbrev pub decreases-hold : goal.decreases-hold
decreases-hold l = length l.cells.now
