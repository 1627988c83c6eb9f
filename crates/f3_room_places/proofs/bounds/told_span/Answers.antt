use Rattle.std.proofs.Common.{◌∙◌}
use Rattle.std.proofs.lemmas.Int.{to_z-of_z}
use Rattle.std.specs.Int.{w64}
use Rattle.f3_room_places.proofs.Telling.{told_dimension}
use Rattle.f3_room_places.proofs.bounds.told_span.Goals as goal

pub returns : goal.returns
returns g c =
    told_dimension (g.B.Blocks.blocks c.args.heap.now) c.args.block c.args.at c.args.rank c.args.dimension _ c.extent_in.result c.if-dimension-rank.false
    (to_z-of_z w64 c.read.result (record { sfits = c.read.type_inv }) ∙ c.read.ensures) c.extent_in.ensures
