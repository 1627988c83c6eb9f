use Rattle.std.proofs.Common.{◌≡◌, ◌≤◌, ◌-◌, length, drop}
use Rattle.std.specs.Option.{IfSome}
use Rattle.f3_lex.specs.Tokens.{to_closing}
use Rattle.f3_lex.proofs.Lengths.{from_there}
use Rattle.f3_lex.proofs.length.to_closing.Given as goal

abbrev pub invariant-loop-n : goal.invariant-loop-n
invariant-loop-n l = record {
  within : l.n ≤ length l.bytes;
  end_within : IfSome l.end (λ n. n ≤ length l.bytes);
  total : from_there l.n l.end (to_closing l.quote (drop l.n l.bytes)) ≡ to_closing l.quote l.bytes;
}

abbrev pub decreases-loop-n : goal.decreases-loop-n
decreases-loop-n l = length l.bytes - l.n
