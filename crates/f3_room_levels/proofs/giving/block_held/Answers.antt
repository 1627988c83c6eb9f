use Rattle.std.proofs.Common.{w64, ◌∙◌, rules}
use mir.Val.{SFits}
use Rattle.std.proofs.lemmas.Int.{to_z-of_z}
use Rattle.f3_objects.proofs.Holders.{holder_read}
use Rattle.f3_room_levels.proofs.giving.block_held.Goals as goal

pub returns : goal.returns
returns g c =
    let fits : SFits w64 c.read.result = search rules in
    λ rank s t h. holder_read (g.B.Blocks.blocks c.args.heap.now) c.args.block c.args.at rank s t c.of.result _ h (to_z-of_z w64 c.read.result fits ∙ c.read.ensures) c.of.ensures.named c.of.ensures.positive
