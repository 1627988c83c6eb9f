use Rattle.std.proofs.Common.{rules}
use Rattle.f3_breaks.proofs.Finding.{least_among}
use Rattle.f3_scope_rules.specs.Inner.Rows.{AttributeOutside}
use Rattle.f3_scope_rules.proofs.access.first_attribute_outside.Goals as goal

pub returns : goal.returns
returns c = least_among (AttributeOutside c.args.is_outside) _ c.args.places.now c.first_among.result (λ x here is. search rules) c.first_among.ensures
