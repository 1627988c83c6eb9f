use Rattle.std.proofs.Common.{arith, ap, ◌∙◌, ℕ, List, Option, map}
use Rattle.std.proofs.lemmas.List.{take_all}
use Rattle.f3_tree.specs.declared.declaration.Entity.{Entity}
use Rattle.f3_tree.specs.Declarations.{entity_view}
use Rattle.f3_type_rules.specs.Shapes.{cells_in, summed}
use Rattle.f3_type_rules.specs.Walks.{after}
use Rattle.f3_declared.specs.Declarations.{tree_of}
use Rattle.f3_declared.specs.Spots.{spot_in}
use Rattle.f3_extents.specs.Counts.{counted}
use Rattle.f3_specifications.proofs.Walking.{after_more}
use Rattle.f3_specifications.proofs.components.entity_cells.Goals as goal

pub loop-component-preserved : goal.loop-component-preserved
loop-component-preserved c = λ s k n h e.
    let f : Entity → Option ℕ = λ x. cells_in (spot_in s c.args.spot.now) k (tree_of c.args.reading.now, entity_view x) in
    c.summed-cells.ensures _ _ (c.loop-component.invariant s k n h e) (c.cells_in-own.ensures s k h)
    ∙ ap counted (after_more summed f n c.args.list.now c.loop-component.component-index c.component-item.result c.loop-component-test.true c.component-item.is)

pub returns : goal.returns
returns c = λ s k n h e.
    let f : Entity → Option ℕ = λ x. cells_in (spot_in s c.args.spot.now) k (tree_of c.args.reading.now, entity_view x) in
    c.loop-component.invariant s k n h e
    ∙ ap (λ (ys : List Entity). counted (after summed n (map f ys))) (take_all c.loop-component.component-index c.args.list.now (omega (arith, c.loop-component-test.false)))
