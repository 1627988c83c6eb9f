use Rattle.f3_word_cells.specs.Does.{HasNoMemory, HasNoRoom}
use Rattle.f3_word_reads.proofs.Rooms.{keeps-same, keeps-then, keeps-took}
use Rattle.f3_word_reads.proofs.Loading.{lost-load, there-load, does-load, fails-load}
use Rattle.f3_word_reads.proofs.reading.load.Goals as goal

pub returns-in_default-clause-does : goal.returns-in_default-clause-does
returns-in_default-clause-does g c = let m = g.B.Blocks.blocks c.args.heap.now in lost-load c.args.scene.program.now m m c.args.state.now c.pop_object.new.state c.pop_object.new.state (HasNoRoom g.B.Blocks.has_room c.args.heap.now) (HasNoMemory g.B.Blocks.allows (g.B.Blocks.kept c.args.heap.now) m) c.in_default.ensures

pub returns-in_default-clause-keeps : goal.returns-in_default-clause-keeps
returns-in_default-clause-keeps g c = keeps-took _ _ _ c.pop_object.ensures

pub held-requires-clause-there : goal.held-requires-clause-there
held-requires-clause-there g c =
    let at = c.requires.at in
    let there = there-load c.args.scene.program.now _ c.args.state.now _ c.in-Some.object c.in-Some.ensures c.args.scene.types c.requires.scene.types at.state at.line at.rooms at.told at.there at.act at.stands in
    (c.args.scene.program.now, at.rooms, (there.0).top.reference, there.1)

pub returns-in-Ok-clause-does : goal.returns-in-Ok-clause-does
returns-in-Ok-clause-does g c =
    does-load c.args.scene.program.now _ c.args.state.now _ c.in-Some.object c.in-Some.ensures c.args.scene.types c.requires.scene.types _ (HasNoRoom g.B.Blocks.has_room c.args.heap.now) (HasNoMemory g.B.Blocks.allows (g.B.Blocks.kept c.args.heap.now) (g.B.Blocks.blocks c.args.heap.now)) _ c.in-Ok.datum
    (λ x r there. c.in-Ok.ensures.reads c.args.scene.program.now x r there) c.go_on_with.ensures

pub returns-in-Ok-clause-keeps : goal.returns-in-Ok-clause-keeps
returns-in-Ok-clause-keeps g c = keeps-then _ _ _ (keeps-took _ _ _ c.pop_object.ensures) (keeps-same _ _ c.go_on_with.ensures.same)

pub returns-in-Err-clause-does : goal.returns-in-Err-clause-does
returns-in-Err-clause-does g c =
    fails-load c.args.scene.program.now _ c.args.state.now _ c.in-Some.object c.in-Some.ensures c.args.scene.types c.requires.scene.types (g.B.Blocks.blocks c.held.new.heap) (HasNoRoom g.B.Blocks.has_room c.args.heap.now) (HasNoMemory g.B.Blocks.allows (g.B.Blocks.kept c.args.heap.now) (g.B.Blocks.blocks c.args.heap.now)) c.pop_object.new.state c.in-Err.stop
    (λ x r there. c.in-Err.ensures.reads c.args.scene.program.now x r there)

pub returns-in-Err-clause-keeps : goal.returns-in-Err-clause-keeps
returns-in-Err-clause-keeps g c = keeps-took _ _ _ c.pop_object.ensures
