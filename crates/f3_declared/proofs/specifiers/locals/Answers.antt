use Rattle.std.proofs.Common.{refl, arith, ap, sym, ◌∙◌, ℕ, List}
use Rattle.std.specs.List.{flat_map}
use Rattle.f3_rules.specs.declared.breaks.Break.{Break}
use Rattle.f3_tree.specs.declared.declaration.Specification.{Specification}
use Rattle.f3_tree.specs.Declarations.{specification_view}
use Rattle.f3_typed_parts.specs.Noted.{noted}
use Rattle.f3_typed_parts.proofs.Noting.{item_step, noted_done}
use Rattle.f3_type_rules.specs.Names.{Declared, entries_in}
use Rattle.f3_type_rules.specs.Declarations.{local_rows}
use Rattle.f3_type_rules.specs.Walks.{Spot}
use Rattle.f3_declared.specs.Scenery.{scene_in}
use Rattle.f3_declared.specs.Spots.{spot_in}
use Rattle.f3_declared.proofs.Locals.{rows_of_part}
use Rattle.f3_declared.proofs.specifiers.locals.Goals as goal

row : Spot → Specification → List Break
row s x = flat_map (λ (y : ℕ × Declared). local_rows s y.1) (entries_in (specification_view x))

pub loop-specification-preserved : goal.loop-specification-preserved
unfolding row
loop-specification-preserved c =
    item_step (row (spot_in (scene_in c.args.known.now c.args.scenery) c.args.spot.now)) c.args.part.now c.loop-specification.specification-index c.specification-item.result
    c.loop-specification.first c.specification_locals.new.first _ c.loop-specification-test.true c.specification-item.is c.specification_locals.ensures c.loop-specification.invariant

pub returns : goal.returns
unfolding row
returns c =
    let s : Spot = spot_in (scene_in c.args.known.now c.args.scenery) c.args.spot.now in
    noted_done (flat_map (row s)) c.args.part.now c.loop-specification.specification-index c.loop-specification.first _ (omega (arith, c.loop-specification-test.false)) refl c.loop-specification.invariant
    ∙ ap (noted c.args.first.now) (sym (rows_of_part (local_rows s) c.args.part.now))
