use Rattle.f3_tree.specs.Declarations.{entity_view}
use Rattle.f3_declared.specs.Declarations.{tree_of}
use Rattle.f3_declared.specs.Spots.{spot_in}
use Rattle.f3_declared.proofs.Conflicting.{conflicts_asked, given_some}
use Rattle.std.proofs.Common.{◌∙◌}
use Rattle.f3_declared.proofs.conflicts.conflicts.Goals as goal

pub returns : goal.returns
returns c = λ scene.
    conflicts_asked (spot_in scene c.args.spot.now) (tree_of c.args.reading.now) (entity_view c.args.entity.now) _ _ _ _ _ _ _ _ _ c.conflicts_by.ensures c.requires.kinds
    (c.listings_of.ensures scene) (c.is_dummy-dummy.ensures scene) (c.is_result-outcome.ensures scene) c.either.ensures (c.is_some.ensures ∙ given_some c.args.entity.now.initial)
    c.is_derived.ensures c.shape_of-shape.ensures
