use Rattle.std.proofs.Common.{rules}
use Rattle.f3_breaks.proofs.Finding.{first_along}
use Rattle.f3_name_rules.specs.Inner.Rows.{item_row}
use Rattle.f3_name_rules.proofs.uses.first_in_items.Goals as goal

pub returns : goal.returns
returns c = first_along (item_row c.args.tables.now c.args.source) _ (λ x here is. search rules) c.args.items.now c.first_among.result c.first_among.ensures
