use Rattle.std.proofs.Common.{rules}
use Rattle.f3_breaks.proofs.Finding.{least_among}
use Rattle.f3_scopes.specs.Outlines.{own_view}
use Rattle.f3_scope_rules.specs.Inner.Rows.{Misintended}
use Rattle.f3_scope_rules.proofs.intent.first_misintended.Goals as goal

pub returns : goal.returns
returns c = least_among (λ d. Misintended c.args.is_function c.args.dummies.now.keys (own_view d)) _ c.args.declared.now c.first_among.result (λ x here is. search rules) c.first_among.ensures
