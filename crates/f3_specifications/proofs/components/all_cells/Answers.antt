use Rattle.std.proofs.Common.{arith, ap, ◌∙◌, ℕ, List, Option, Some, map}
use Rattle.std.specs.List.{flat_map}
use Rattle.std.proofs.lemmas.List.{take_all}
use Rattle.f3_tree.specs.declared.declaration.Declaration.{Declaration}
use Rattle.f3_tree.specs.declared.declaration.Entity.{Entity}
use Rattle.f3_tree.specs.Declarations.{declaration_view, entity_view}
use Rattle.f3_type_rules.specs.Shapes.{cells_in, summed}
use Rattle.f3_type_rules.specs.Walks.{after}
use Rattle.f3_declared.specs.Spots.{spot_in}
use Rattle.f3_extents.specs.Counts.{counted}
use Rattle.f3_specifications.proofs.Walking.{after_flat_more}
use Rattle.f3_specifications.proofs.components.all_cells.Goals as goal

pub loop-declaration-preserved : goal.loop-declaration-preserved
loop-declaration-preserved c = λ s k h.
    let f : Declaration → List (Option ℕ) = λ d. map (λ (x : Entity). cells_in (spot_in s c.args.spot.now) k (declaration_view d, entity_view x)) d.entities.items in
    c.component_cells-cells.ensures s k _ h (c.loop-declaration.invariant s k h)
    ∙ ap counted (after_flat_more summed f (Some 0) c.args.list.now c.loop-declaration.declaration-index c.declaration-item.result c.loop-declaration-test.true c.declaration-item.is)

pub returns : goal.returns
returns c = λ s k h.
    let f : Declaration → List (Option ℕ) = λ d. map (λ (x : Entity). cells_in (spot_in s c.args.spot.now) k (declaration_view d, entity_view x)) d.entities.items in
    c.loop-declaration.invariant s k h
    ∙ ap (λ (ys : List Declaration). counted (after summed (Some 0) (flat_map f ys))) (take_all c.loop-declaration.declaration-index c.args.list.now (omega (arith, c.loop-declaration-test.false)))
