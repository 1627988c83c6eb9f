use Rattle.std.proofs.Common.{length}
use Rattle.f3_word_entries.proofs.naming.+name_all.Given as goal

abbrev pub decreases-name_all : goal.decreases-name_all
decreases-name_all l = length l.dummies.now
