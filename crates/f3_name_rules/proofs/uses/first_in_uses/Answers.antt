use Rattle.std.proofs.Common.{rules}
use Rattle.f3_breaks.proofs.Finding.{first_along}
use Rattle.f3_name_rules.specs.Inner.Rows.{use_row}
use Rattle.f3_name_rules.proofs.uses.first_in_uses.Goals as goal

pub returns : goal.returns
returns c = first_along (use_row c.args.tables.now) _ (λ x here is. search rules) c.args.uses.now c.first_among.result c.first_among.ensures
