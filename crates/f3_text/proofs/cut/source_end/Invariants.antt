use Rattle.std.proofs.Common.{◌≡◌, ◌+◌, ◌≤◌, drop, ◌==◌, count_by}
use Rattle.f3_text.proofs.SourceEnds.{column_behind}
use Rattle.f3_text.proofs.cut.source_end.Given as goal

abbrev pub invariant-loop-byte : goal.invariant-loop-byte
invariant-loop-byte l = record {
  bound : (l.line ≤ l.byte-index + 1) × (l.column ≤ l.byte-index + 1);
  line : l.line + count_by (λ b. b == 10) (drop l.byte-index l.bytes) ≡ 1 + count_by (λ b. b == 10) l.bytes;
  column : column_behind l.column (drop l.byte-index l.bytes) ≡ column_behind 1 l.bytes;
}
