use Rattle.std.proofs.Common.{◌≡◌, ◌≤◌, take}
use Rattle.f3_lex.specs.Faults.{value_of_digits}
use Rattle.f3_lex.proofs.value.value_within.Given as goal

abbrev pub invariant-loop-digit : goal.invariant-loop-digit
invariant-loop-digit l = record {
  small : l.value ≤ l.most;
  read : l.value ≡ value_of_digits (take l.digit-index l.digits);
}
