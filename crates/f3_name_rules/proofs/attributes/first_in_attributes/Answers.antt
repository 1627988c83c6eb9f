use Rattle.std.proofs.Common.{List, ap, ◌∙◌}
use Rattle.std.specs.List.{flat_map}
use Rattle.f3_rules.specs.Least.{first_of}
use Rattle.f3_tree.specs.declared.expression.Name.{Name}
use Rattle.f3_scopes.specs.declared.outline.Declared.{Declared}
use Rattle.f3_name_rules.specs.Inner.Rows.{attribute_row, declared_row}
use Rattle.f3_name_rules.proofs.Steps.{joined}
use Rattle.f3_name_rules.proofs.attributes.first_in_attributes.Goals as goal

pub returns : goal.returns
returns c =
    let tables = c.args.tables.now in
    let number = c.args.number in
    joined (flat_map (declared_row tables number) c.args.outline.now.declared.items) (flat_map (attribute_row tables number) c.args.outline.now.protects.items) _ _ _ c.earlier.ensures
    (c.first_in_declared-declared.ensures ∙ ap (λ (l : List Declared). first_of (flat_map (declared_row tables number) l)) c.deref.ensures.value)
    (c.first_in_protects-protects.ensures ∙ ap (λ (l : List Name). first_of (flat_map (attribute_row tables number) l)) c.deref-2.ensures.value)
