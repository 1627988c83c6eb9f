use Rattle.std.proofs.Common.{rules}
use Rattle.f3_breaks.proofs.Finding.{least_among}
use Rattle.f3_scope_rules.specs.Inner.Rows.{Missing}
use Rattle.f3_scope_rules.proofs.undeclared.first_missing.Goals as goal

pub returns : goal.returns
returns c = least_among (Missing c.args.declared.now.keys) _ c.args.names.now c.first_among.result (λ x here is. search rules) c.first_among.ensures
