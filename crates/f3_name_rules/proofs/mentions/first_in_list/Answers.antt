use Rattle.std.proofs.Common.{rules}
use Rattle.f3_breaks.proofs.Finding.{first_along}
use Rattle.f3_name_rules.specs.Inner.Rows.{listed_row}
use Rattle.f3_name_rules.proofs.mentions.first_in_list.Goals as goal

pub returns : goal.returns
returns c = first_along (listed_row c.args.tables.now c.args.number) _ (λ x here is. search rules) c.args.names.now c.first_among.result c.first_among.ensures
