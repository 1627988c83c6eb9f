use Rattle.std.proofs.Common.{rules}
use Rattle.f3_breaks.proofs.Finding.{first_along}
use Rattle.std.specs.Prelude.{map, string_bytes}
use Rattle.f3_name_rules.specs.Inner.Rows.{reference_row}
use Rattle.f3_name_rules.proofs.mentions.first_in_references.Goals as goal

pub returns : goal.returns
returns c = first_along (reference_row c.args.tables.now (map string_bytes c.args.names.now.keys) c.args.number) _ (λ x here is. search rules) c.args.references.now c.first_among.result c.first_among.ensures
