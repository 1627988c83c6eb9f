use Rattle.std.proofs.Common.{◌≡◌, length}
use Rattle.f3_text.specs.Reader.{ahead, parts_ahead}
use Rattle.f3_text.proofs.sources.next_statement.Given as goal

abbrev pub invariant-loop-at : goal.invariant-loop-at
invariant-loop-at l = record { same : parts_ahead l.at ≡ parts_ahead l.fn.cursor; file : l.at.file ≡ l.fn.cursor.file }

abbrev pub decreases-loop-at : goal.decreases-loop-at
decreases-loop-at l = length (ahead l.at)
