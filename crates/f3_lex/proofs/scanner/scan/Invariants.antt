use Rattle.std.proofs.Common.{◌≡◌, ◌≤◌, ◌-◌, ◌++◌, length, drop}
use Rattle.f3_lex.specs.Tokens.{tokens_at, tokens_of}
use Rattle.f3_lex.proofs.scanner.scan.Given as goal

abbrev pub invariant-loop-start : goal.invariant-loop-start
invariant-loop-start l = record {
  within : l.start ≤ length l.bytes;
  few : l.depth ≤ l.start;
  total : l.tokens.items ++ tokens_at 0 l.start l.depth (drop l.start l.bytes) ≡ tokens_of l.bytes;
}

abbrev pub decreases-loop-start : goal.decreases-loop-start
decreases-loop-start l = length l.bytes - l.start
