use Rattle.std.proofs.Common.{◌≡◌, ◌++◌, length, map}
use Rattle.f3_text.specs.Statements.{cut_of}
use Rattle.f3_text.specs.Reader.{left, bytes_of, spelled_of}
use Rattle.f3_text.proofs.cut.statements.Given as goal

abbrev pub invariant-loop-statement : goal.invariant-loop-statement
invariant-loop-statement l = record {
  statements : map spelled_of l.statements.items ++ (left l.reader).statements ≡ (cut_of (bytes_of l.fn.sources)).statements;
  fault : (left l.reader).fault ≡ (cut_of (bytes_of l.fn.sources)).fault;
}

abbrev pub decreases-loop-statement : goal.decreases-loop-statement
decreases-loop-statement l = length (left l.reader).statements
