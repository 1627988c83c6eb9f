use Rattle.std.proofs.Common.{List, map, string_bytes, ap, ◌∙◌}
use Rattle.std.specs.List.{flat_map}
use Rattle.f3_rules.specs.Least.{first_of}
use Rattle.f3_tree.specs.declared.expression.Name.{Name}
use Rattle.f3_scopes.specs.Kinds.{is_module}
use Rattle.f3_name_rules.specs.Inner.Rows.{accesses_row, reference_row}
use Rattle.f3_name_rules.proofs.Steps.{joined}
use Rattle.f3_name_rules.proofs.mentions.first_in_mentions.Goals as goal

pub returns : goal.returns
returns c =
    let tables = c.args.tables.now in
    let number = c.args.number in
    let outline = c.args.outline.now in
    let row = reference_row tables (map string_bytes c.args.names.now.keys) number in
    joined (accesses_row tables number (is_module outline.kind) outline.accesses.items) (flat_map row outline.references.items) _ _ _ c.earlier.ensures
    c.first_in_module-accesses.ensures
    (c.first_in_references-references.ensures ∙ ap (λ (l : List Name). first_of (flat_map row l)) c.deref.ensures.value)
