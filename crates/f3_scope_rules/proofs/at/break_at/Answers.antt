use Rattle.std.proofs.Common.{Some, true, sym, subst}
use Rattle.f3_rules.specs.Least.{Least}
use Rattle.f3_scope_rules.specs.ScopeBreaks.{at}
use Rattle.f3_scope_rules.specs.Inner.Rows.{If}
use Rattle.f3_scope_rules.proofs.Passing.{least_if}
use Rattle.f3_scope_rules.proofs.at.break_at.Goals as goal

pub returns-then-is_broken-clause-least : goal.returns-then-is_broken-clause-least
returns-then-is_broken-clause-least c = let found = at c.args.rule c.args.name.now in rw c.at.ensures (subst (λ t. Least (Some found) (If t found)) (sym c.if-is_broken.true) (least_if true found))
