use Rattle.std.proofs.Common.{sym, subst, arith}
use Rattle.f3_desc.specs.Shape.{Shape, Times}
use Rattle.f3_objects.specs.Holds.{Holds}
use Rattle.f3_live_blocks.specs.Blocks.{pins_of}
use Rattle.f3_objects.proofs.Trees.{times-left}
use Rattle.f3_room_arrays.proofs.copying.give_back.Goals as goal

pub returns-clause-others : goal.returns-clause-others
returns-clause-others g c t holds q ne none =
    let few = times-left (pins_of (g.B.Blocks.blocks c.args.heap.now)) q t in
    let there = subst (λ (s : Shape). Holds (g.B.Blocks.blocks c.args.heap.now) c.args.block c.args.at (Times c.args.count s) t) (sym c.last.ensures.shape) holds in
    (c.free_elements.ensures.freed t there).replaced.others q ne (omega arith) none
