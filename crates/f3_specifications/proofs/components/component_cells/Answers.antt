use Rattle.std.proofs.Common.{ap, ◌∙◌, List, map}
use Rattle.f3_tree.specs.declared.declaration.Declaration.{Declaration}
use Rattle.f3_tree.specs.declared.declaration.Entity.{Entity}
use Rattle.f3_tree.specs.Declarations.{declaration_view, entity_view}
use Rattle.f3_type_rules.specs.Shapes.{cells_in, summed}
use Rattle.f3_type_rules.specs.Walks.{after, Spot}
use Rattle.f3_declared.specs.Spots.{spot_in}
use Rattle.f3_extents.specs.Counts.{counted}
use Rattle.f3_specifications.proofs.components.component_cells.Goals as goal

pub returns : goal.returns
returns c = λ s k n h e.
    let spot : Spot = spot_in s c.args.spot.now in
    c.entity_cells.ensures s k n h e
    ∙ ap (λ (d : Declaration). counted (after summed n (map (λ (x : Entity). cells_in spot k (declaration_view d, entity_view x)) c.deref.result.now))) c.read-reading.ensures.declaration
    ∙ ap (λ (xs : List Entity). counted (after summed n (map (λ (x : Entity). cells_in spot k (declaration_view c.args.declaration.now, entity_view x)) xs))) c.deref.ensures.value
