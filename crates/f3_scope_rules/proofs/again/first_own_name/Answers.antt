use Rattle.std.proofs.Common.{rules}
use Rattle.f3_breaks.proofs.Finding.{least_among}
use Rattle.f3_scope_rules.specs.Inner.Rows.{OwnName}
use Rattle.f3_scope_rules.proofs.again.first_own_name.Goals as goal

pub returns : goal.returns
returns c = least_among (OwnName c.args.has_other_result c.args.own.now.symbol) _ c.args.declared.now c.first_among.result (λ x here is. search rules) c.first_among.ensures
