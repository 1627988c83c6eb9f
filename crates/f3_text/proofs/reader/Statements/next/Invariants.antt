use Rattle.std.proofs.Common.{◌≡◌, length}
use Rattle.f3_text.specs.Reader.{left}
use Rattle.f3_text.proofs.reader.Statements.next.Given as goal

abbrev pub invariant-loop-statement : goal.invariant-loop-statement
invariant-loop-statement l = left l.self ≡ left l.fn.self

abbrev pub decreases-loop-statement : goal.decreases-loop-statement
decreases-loop-statement l = length l.self.sources.now
