use Rattle.std.proofs.Common.{rules}
use Rattle.f3_breaks.proofs.Finding.{least_among}
use Rattle.f3_scope_rules.specs.Inner.Rows.{ComponentsTwice}
use Rattle.f3_scope_rules.proofs.access.first_component_of_types.Goals as goal

pub returns : goal.returns
returns c = least_among (ComponentsTwice) _ c.args.types.now c.first_among.result (λ x here is. search rules) c.first_among.ensures
