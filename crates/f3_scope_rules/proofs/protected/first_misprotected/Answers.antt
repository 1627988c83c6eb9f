use Rattle.std.proofs.Common.{rules}
use Rattle.f3_breaks.proofs.Finding.{least_among}
use Rattle.f3_scope_rules.specs.Inner.Rows.{Misprotected}
use Rattle.f3_scope_rules.proofs.protected.first_misprotected.Goals as goal

pub returns : goal.returns
returns c = least_among (Misprotected c.args.is_outside c.args.variables.now.keys) _ c.args.names.now c.first_among.result (λ x here is. search rules) c.first_among.ensures
