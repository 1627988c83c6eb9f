use Rattle.std.proofs.Common.{◌≡◌, drop}
use Rattle.f3_lex.specs.Faults.{first_broken}
use Rattle.f3_lex.proofs.fault.first_broken.Given as goal

abbrev pub invariant-loop-token : goal.invariant-loop-token
invariant-loop-token l = first_broken l.bytes (drop l.token-index l.tokens) ≡ first_broken l.bytes l.tokens
