use Rattle.std.proofs.Common.{◌≡◌, ap, ◌∙◌, ℕ, Option, Some, List, [], true, map}
use Rattle.std.specs.List.{flat_map}
use Rattle.f3_rules.specs.declared.rule.Rule.TheVariants.{T5}
use Rattle.f3_tree.specs.declared.declaration.Declaration.{Declaration}
use Rattle.f3_tree.specs.declared.declaration.Entity.{Entity}
use Rattle.f3_tree.specs.Declarations.{declaration_view, entity_view, type_view}
use Rattle.f3_kinds.specs.Rows.{at_name, unless}
use Rattle.f3_typed_parts.specs.Noted.{noted}
use Rattle.f3_typed_parts.proofs.Noting.{noted_more}
use Rattle.f3_type_rules.specs.Declarations.{all_cells, component_rows}
use Rattle.f3_type_rules.specs.Shapes.{at_most, cells_in, summed}
use Rattle.f3_type_rules.specs.Walks.{after, Spot}
use Rattle.f3_declared.specs.Spots.{spot_in}
use Rattle.f3_extents.proofs.Shaping.{flat_map_map}
use Rattle.f3_extents.specs.Counts.{counted}
use Rattle.f3_specifications.proofs.Summing.{cells_along}
use Rattle.f3_specifications.proofs.definitions.definition.Goals as goal

pub returns-clause-cells : goal.returns-clause-cells
returns-clause-cells c = λ s k h.
    let spot : Spot = spot_in s c.args.spot.now in
    c.all_cells-cells.ensures s k h
    ∙ ap (λ (xs : List Declaration). counted (after summed (Some 0) (flat_map (λ (d : Declaration). map (λ (x : Entity). cells_in spot k (declaration_view d, entity_view x)) d.entities.items) xs))) c.deref-2.ensures.value
    ∙ ap (λ (ns : List (Option ℕ)). counted (after summed (Some 0) ns)) (cells_along spot k c.args.definition.now.components.items)

pub returns-clause-noted : goal.returns-clause-noted
returns-clause-noted c = λ s k h.
    let spot : Spot = spot_in s c.args.spot.now in
    let inside : Spot = record spot { is_type = true; listed = [] } in
    let cells : c.all_cells-cells.result ≡ counted (all_cells spot k (type_view c.args.definition.now)) = returns-clause-cells c s k h in
    c.unless.ensures
    ∙ ap (λ b. noted c.components.new.first (unless c.at_most-small.result b)) c.at_name.ensures
    ∙ ap (λ z. noted c.components.new.first (unless z (at_name 5 T5 c.args.definition.now.name))) (c.at_most-small.ensures (all_cells spot k (type_view c.args.definition.now)) cells)
    ∙ ap (λ z. noted z (unless (at_most 16777216 (all_cells spot k (type_view c.args.definition.now))) (at_name 5 T5 c.args.definition.now.name)))
    (c.in_ok-components.ensures s k h
    ∙ ap (λ (xs : List Declaration). noted c.args.first.now (flat_map (λ (d : Declaration). component_rows inside k (declaration_view d)) xs)) c.deref.ensures.value
    ∙ ap (noted c.args.first.now) (flat_map_map (component_rows inside k) declaration_view c.args.definition.now.components.items))
    ∙ noted_more c.args.first.now (flat_map (component_rows inside k) (type_view c.args.definition.now).components) (unless (at_most 16777216 (all_cells spot k (type_view c.args.definition.now))) (at_name 5 T5 c.args.definition.now.name))
