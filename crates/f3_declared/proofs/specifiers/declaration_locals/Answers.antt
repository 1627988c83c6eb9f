use Rattle.std.proofs.Common.{refl, arith, ap, ◌∙◌, List}
use Rattle.std.specs.List.{flat_map}
use Rattle.f3_rules.specs.declared.breaks.Break.{Break}
use Rattle.f3_tree.specs.declared.declaration.Declaration.{Declaration}
use Rattle.f3_tree.specs.declared.declaration.Entity.{Entity}
use Rattle.f3_tree.specs.Declarations.{declaration_view, entity_view}
use Rattle.f3_typed_parts.specs.Noted.{noted}
use Rattle.f3_typed_parts.proofs.Noting.{item_step, noted_done}
use Rattle.f3_type_rules.specs.Declarations.{local_rows}
use Rattle.f3_type_rules.specs.Walks.{Spot}
use Rattle.f3_declared.specs.Scenery.{scene_in}
use Rattle.f3_declared.specs.Spots.{spot_in}
use Rattle.f3_declared.proofs.specifiers.declaration_locals.Goals as goal

row : Spot → Declaration → Entity → List Break
row s d x = local_rows s (declaration_view d, entity_view x)

pub loop-entity-preserved : goal.loop-entity-preserved
unfolding row
loop-entity-preserved c =
    let s : Spot = spot_in (scene_in c.args.known.now c.args.scenery) c.args.spot.now in
    item_step (row s c.args.declaration.now) c.as_slice-list.result.now c.loop-entity.entity-index c.entity-item.result c.loop-entity.first c.local.new.first _
    c.loop-entity-test.true c.entity-item.is
    (c.local.ensures ∙ ap (λ d. noted c.loop-entity.first (row s d c.entity-item.result)) c.read-reading.ensures.declaration)
    c.loop-entity.invariant

pub returns : goal.returns
unfolding row
returns c =
    let s : Spot = spot_in (scene_in c.args.known.now c.args.scenery) c.args.spot.now in
    noted_done (flat_map (row s c.args.declaration.now)) c.as_slice-list.result.now c.loop-entity.entity-index c.loop-entity.first _ (omega (arith, c.loop-entity-test.false)) refl c.loop-entity.invariant
    ∙ ap (λ xs. noted c.args.first.now (flat_map (row s c.args.declaration.now) xs)) c.as_slice-list.ensures.value
