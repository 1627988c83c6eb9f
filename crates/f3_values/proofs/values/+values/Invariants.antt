use Rattle.std.proofs.Common.{◌≡◌, ◌≤◌, length}
use Rattle.f3_typed_parts.specs.Known.{context_of}
use Rattle.f3_values.specs.Inner.Chains.{run}
use Rattle.f3_values.proofs.Operands.{between, Follows}
use Rattle.f3_values.proofs.values.+values.Given as goal

abbrev pub invariant-run-loop-place : goal.invariant-run-loop-place
invariant-run-loop-place l =
    run (context_of l.known l.at) l.result (between l.place l.to l.others) ≡ run (context_of l.known l.at) l.fn.first (between l.from l.to l.others)

abbrev pub invariant-chain-loop-place : goal.invariant-chain-loop-place
invariant-chain-loop-place l = record {
  within : l.end ≤ length l.others;
  above : l.place ≤ l.end;
  follows : Follows (context_of l.known l.at) l.others l.place l.end l.exponent;
}
