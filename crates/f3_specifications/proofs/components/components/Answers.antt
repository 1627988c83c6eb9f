use Rattle.std.proofs.Common.{refl, arith}
use Rattle.std.specs.List.{flat_map}
use Rattle.f3_tree.specs.declared.declaration.Declaration.{Declaration}
use Rattle.f3_tree.specs.Declarations.{declaration_view}
use Rattle.f3_typed_parts.proofs.Noting.{item_step, noted_done}
use Rattle.f3_type_rules.specs.Declarations.{component_rows}
use Rattle.f3_declared.specs.Spots.{spot_in}
use Rattle.f3_specifications.proofs.components.components.Goals as goal

pub loop-declaration-preserved : goal.loop-declaration-preserved
loop-declaration-preserved c = λ s k h.
    item_step (λ (d : Declaration). component_rows (spot_in s c.args.spot.now) k (declaration_view d))
    c.args.list.now c.loop-declaration.declaration-index c.declaration-item.result c.loop-declaration.first c.component.new.first _ c.loop-declaration-test.true c.declaration-item.is
    (c.in_ok-component.ensures s k h) (c.loop-declaration.invariant s k h)

pub returns : goal.returns
returns c = λ s k h.
    noted_done (flat_map (λ (d : Declaration). component_rows (spot_in s c.args.spot.now) k (declaration_view d)))
    c.args.list.now c.loop-declaration.declaration-index c.loop-declaration.first _ (omega (arith, c.loop-declaration-test.false)) refl (c.loop-declaration.invariant s k h)
