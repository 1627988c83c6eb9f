use Rattle.std.proofs.Common.{◌≡◌, drop}
use Rattle.f3_word_structures.specs.Members.{given_in}
use Rattle.f3_word_structures.proofs.finding.given.Given as goal

abbrev pub invariant-loop-cell : goal.invariant-loop-cell
invariant-loop-cell l = given_in l.number l.cells ≡ given_in l.number (drop l.cell-index l.cells)
