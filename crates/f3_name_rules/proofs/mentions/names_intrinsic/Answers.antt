use Rattle.std.proofs.Common.{rules, ◌≡◌, None, slice_get, map, string_bytes, sym}
use Rattle.f3_name_rules.specs.NameBreaks.{text_of}
use Rattle.f3_name_rules.proofs.Steps.{no_text, no_name}
use Rattle.f3_name_rules.proofs.mentions.names_intrinsic.Goals as goal

pub returns-in-None : goal.returns-in-None
returns-in-None c =
    let none : slice_get c.args.names.now.keys c.args.symbol ≡ None = search rules in
    sym (no_text (text_of (map string_bytes c.args.names.now.keys) c.args.symbol) (no_name string_bytes c.args.names.now.keys c.args.symbol none))
