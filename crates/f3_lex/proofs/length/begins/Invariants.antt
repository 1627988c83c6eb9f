use Rattle.std.proofs.Common.{◌≡◌, drop}
use Rattle.f3_lex.specs.Tokens.{begins, lower}
use Rattle.f3_lex.proofs.length.begins.Given as goal

abbrev pub invariant-loop-i : goal.invariant-loop-i
invariant-loop-i l = begins l.word (lower l.bytes) ≡ begins (drop l.i l.word) (lower (drop l.i l.bytes))
