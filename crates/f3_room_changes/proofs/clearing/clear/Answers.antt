use Rattle.f3_desc.specs.Shape.{whole}
use Rattle.f3_desc.specs.Layout.{pieces_of}
use Rattle.f3_room_changes.proofs.Places.{at_live, laid_long}
use Rattle.f3_room_changes.proofs.Copied.{cleared}
use Rattle.f3_room_changes.proofs.clearing.clear.Goals as goal

pub clear-requires-clause-live : goal.clear-requires-clause-live
clear-requires-clause-live g c = let h = c.requires in at_live h.0 (g.B.Blocks.blocks c.args.heap.now) h.1 h.2 h.3 h.4 c.args.block c.args.at h.5.here

pub clear-requires-clause-within : goal.clear-requires-clause-within
clear-requires-clause-within g c = let h = c.requires in laid_long h.0 (g.B.Blocks.blocks c.args.heap.now) h.1 h.2 h.3 h.4 c.args.block c.args.at (whole (pieces_of c.args.layout.now)) h.5

pub returns-clause-blank : goal.returns-clause-blank
returns-clause-blank g c = λ ts x r way f k bare.
    cleared ts (g.B.Blocks.blocks c.args.heap.now) (g.B.Blocks.blocks c.clear.new.heap) x r way f c.args.block c.args.at (whole (pieces_of c.args.layout.now)) k bare c.clear.ensures.zeros
