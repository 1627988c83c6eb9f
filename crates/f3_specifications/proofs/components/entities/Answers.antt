use Rattle.std.proofs.Common.{refl, arith}
use Rattle.std.specs.List.{flat_map}
use Rattle.f3_tree.specs.declared.declaration.Entity.{Entity}
use Rattle.f3_tree.specs.Declarations.{entity_view}
use Rattle.f3_typed_parts.proofs.Noting.{item_step, noted_done}
use Rattle.f3_type_rules.specs.Declarations.{entity_rows}
use Rattle.f3_declared.specs.Declarations.{tree_of}
use Rattle.f3_declared.specs.Spots.{spot_in}
use Rattle.f3_specifications.proofs.components.entities.Goals as goal

pub loop-component-preserved : goal.loop-component-preserved
loop-component-preserved c = λ s k h.
    item_step (λ (x : Entity). entity_rows (spot_in s c.args.spot.now) (tree_of c.args.reading.now) k (entity_view x))
    c.args.list.now c.loop-component.component-index c.component-item.result c.loop-component.first c.entity.new.first _ c.loop-component-test.true c.component-item.is
    (c.in_ok-entity.ensures s k h) (c.loop-component.invariant s k h)

pub returns : goal.returns
returns c = λ s k h.
    noted_done (flat_map (λ (x : Entity). entity_rows (spot_in s c.args.spot.now) (tree_of c.args.reading.now) k (entity_view x)))
    c.args.list.now c.loop-component.component-index c.loop-component.first _ (omega (arith, c.loop-component-test.false)) refl (c.loop-component.invariant s k h)
