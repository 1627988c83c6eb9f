use Rattle.std.proofs.Common.{◌≡◌, drop, max}
use Rattle.f3_word_needs.specs.Names.{dummies_among}
use Rattle.f3_word_needs.proofs.needs.dummies.Given as goal

abbrev pub invariant-loop-procedure : goal.invariant-loop-procedure
invariant-loop-procedure l = max l.most (dummies_among (drop l.procedure-index l.procedures)) ≡ dummies_among l.procedures
