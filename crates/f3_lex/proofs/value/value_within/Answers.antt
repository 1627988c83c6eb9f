use Rattle.std.proofs.Common.{sym, arith}
use Rattle.f3_lex.proofs.Values.{too_large}
use Rattle.f3_lex.proofs.value.value_within.Goals as goal

pub returns-then-value-from-clause-value : goal.returns-then-value-from-clause-value
returns-then-value-from-clause-value c =
    sym (too_large c.args.most c.args.digits.now c.loop-digit.digit-index c.loop-digit.value c.loop-digit-test.true c.loop-digit.invariant.read (omega (arith, c.from.ensures, c.saturating_sub.ensures, c.from-in-loop-digit.ensures)))
