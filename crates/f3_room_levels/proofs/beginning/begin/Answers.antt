use Rattle.f3_rooms.specs.Forms.{total}
use Rattle.f3_room_places.specs.Places.{shapes}
use Rattle.f3_room_levels.specs.Initial.{initial_words}
use Rattle.f3_room_levels.proofs.Begun.{taken_blank, begun_used, begins}
use Rattle.f3_room_levels.proofs.beginning.begin.Goals as goal

pub write_initial-requires-clause-blank : goal.write_initial-requires-clause-blank
write_initial-requires-clause-blank g c =
    taken_blank (g.B.Blocks.blocks c.args.heap.now) (g.B.Blocks.blocks c.take.new.self) c.args.words c.in_ok-block.block ((c.in_ok-block.ensures {u = tt}).taken)
    (total (shapes c.args.types) c.args.declared.now) c.requires.long

pub returns-clause-begun : goal.returns-clause-begun
returns-clause-begun g c =
    let told = c.in_ok-block.ensures {u = tt} in
    begins (shapes c.args.types) (g.B.Blocks.blocks c.args.heap.now) (g.B.Blocks.blocks c.take.new.self) (g.B.Blocks.blocks c.write_initial.new.heap) c.args.declared.now c.args.words
    c.in_ok-block.block told.fresh told.taken c.requires.fit c.requires.long c.write_initial.ensures.written

pub returns-clause-used : goal.returns-clause-used
returns-clause-used g c =
    let told = c.in_ok-block.ensures {u = tt} in
    begun_used (g.B.Blocks.blocks c.args.heap.now) (g.B.Blocks.blocks c.take.new.self) c.args.words c.in_ok-block.block told.taken (g.B.Blocks.blocks c.write_initial.new.heap)
    (initial_words (shapes c.args.types) c.args.declared.now) c.write_initial.ensures.written told.fresh
