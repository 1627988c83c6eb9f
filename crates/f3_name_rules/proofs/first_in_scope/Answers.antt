use Rattle.std.proofs.Common.{List, ◌++◌, map, string_bytes, ap, ◌∙◌}
use Rattle.std.specs.List.{flat_map}
use Rattle.f3_rules.specs.Least.{first_of}
use Rattle.f3_scopes.specs.declared.outline.UseOutline.{UseOutline}
use Rattle.f3_name_rules.specs.Inner.Rows.{use_row, attributes_row, mentions_row}
use Rattle.f3_name_rules.proofs.Steps.{joined}
use Rattle.f3_name_rules.proofs.first_in_scope.Goals as goal

pub returns : goal.returns
returns c =
    let tables = c.args.tables.now in
    let outline = c.args.outline.now in
    let attributes = attributes_row tables c.args.number outline in
    let mentions = mentions_row tables (map string_bytes c.args.names.now.keys) c.args.number outline in
    joined (flat_map (use_row tables) outline.uses.items) (attributes ++ mentions) _ _ _ c.earlier-2.ensures
    (c.first_in_uses-uses.ensures ∙ ap (λ (l : List UseOutline). first_of (flat_map (use_row tables) l)) c.deref.ensures.value)
    (joined attributes mentions _ _ _ c.earlier.ensures c.first_in_attributes-attributes.ensures c.first_in_mentions-mentions.ensures)
