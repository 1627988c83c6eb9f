use Rattle.std.proofs.Common.{rules}
use Rattle.f3_arithmetic.proofs.Limits.{floor_made}
use Rattle.f3_arithmetic.proofs.numbers.modulo.Goals as goal

-- src/numbers.rt:140:1
pub returns : goal.returns
returns c = λ place. floor_made c.args.width c.args.x c.args.y place _ (search rules) (λ e. c.if-remainder-eq0.false (search (rules, e))) (search (rules, c.floored.ensures place))
