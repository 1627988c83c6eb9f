use Rattle.std.proofs.Common.{◌≡◌, drop, max}
use Rattle.f3_heights.specs.Room.{greatest}
use Rattle.f3_word_needs.proofs.needs.greatest_of.Given as goal

abbrev pub invariant-loop-number : goal.invariant-loop-number
invariant-loop-number l = max l.most (greatest (drop l.number-index l.numbers)) ≡ greatest l.numbers
