use Rattle.std.proofs.Common.{◌≡◌, ◌+◌, ◌%◌, ◌^◌, drop}
use Rattle.f3_requests.specs.Inner.Counted.{held_words}
use Rattle.f3_requests.proofs.given.given_words.Given as goal

abbrev pub invariant-loop-cell : goal.invariant-loop-cell
invariant-loop-cell l = (l.total + held_words (drop l.cell-index l.cells)) % 2 ^ 64 ≡ held_words l.cells % 2 ^ 64
