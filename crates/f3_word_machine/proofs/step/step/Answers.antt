use Rattle.std.proofs.Common.{◌<◌, sym, ◌∙◌, subst, ap, length}
use Rattle.std.specs.Prelude.{slice_get}
use Rattle.f3_output.specs.Output.{state_of}
use Rattle.f3_word_cells.specs.Does.{HasNoMemory, HasNoRoom}
use Rattle.f3_word_machine.specs.Room.{HasRoomFor}
use Rattle.f3_word_machine.proofs.Roomy.{has_room_for}
use Rattle.f3_word_machine.proofs.Doing.{steps, stops, not_lost, not_forbidden, line_of, is_line, at_place}
use Rattle.f3_word_machine.proofs.step.step.Goals as goal

pub line_at-line-requires : goal.line_at-line-requires
line_at-line-requires g c =
    let r = c.requires.ready in
    subst (λ ls. c.args.state.now.pc < length ls) (sym c.deref.ensures.value) (is_line c.args.scene c.requires.scene r.state (r.roomy).run c.args.state.now.pc (r.stands).pc)

pub perform-requires-clause-room : goal.perform-requires-clause-room
perform-requires-clause-room g c =
    let r = c.requires.ready in
    let there = line_of c.args.scene c.requires.scene c.line_at-line.result.now c.args.state.now.pc (sym (rw c.deref.ensures.value at c.line_at-line.ensures)) in
    subst (λ x. HasRoomFor x c.args.state.now) there.2
    (has_room_for c.args.scene.program.now r.state there.0 r.told (ap (slice_get _) (r.stands).pc ∙ there.1) (g.B.Blocks.blocks c.args.heap.now) c.args.state.now r.rooms
    c.requires.roomy r.roomy r.stands)

pub perform-requires-clause-at : goal.perform-requires-clause-at
perform-requires-clause-at g c =
    let r = c.requires.ready in
    let there = line_of c.args.scene c.requires.scene c.line_at-line.result.now c.args.state.now.pc (sym (rw c.deref.ensures.value at c.line_at-line.ensures)) in
    record {
      state = r.state;
      line = there.0;
      rooms = r.rooms;
      told = r.told;
      there = ap (slice_get _) (r.stands).pc ∙ there.1;
      act = there.2;
      stands = r.stands;
    }

pub returns-in-Ok-clause-does : goal.returns-in-Ok-clause-does
returns-in-Ok-clause-does g c = λ t x told stands.
    let p = c.args.scene.program.now in
    let there = line_of c.args.scene c.requires.scene c.line_at-line.result.now c.args.state.now.pc (sym (rw c.deref.ensures.value at c.line_at-line.ensures)) in
    let line = ap (slice_get _) stands.pc ∙ there.1 in
    let place = at_place p (g.B.Blocks.blocks c.args.heap.now) c.args.state.now x t stands (there.0).place c.line_at-line.result.now.place there.3 c.unwrap_or-place.result
    c.unwrap_or-place.ensures in
    steps (HasNoRoom g.B.Blocks.has_room c.args.heap.now) (HasNoMemory g.B.Blocks.allows (g.B.Blocks.kept c.args.heap.now) (g.B.Blocks.blocks c.args.heap.now)) p t there.0 line c.unwrap_or-place.result place (g.B.Blocks.blocks c.perform.new.heap) c.perform.new.state
    (state_of g.W.Write.contents c.args.output.now) (state_of g.W.Write.contents c.perform.new.output)
    (c.in-Ok.ensures.does t there.0 x told line there.2 place stands)

pub returns-in-Err-clause-does : goal.returns-in-Err-clause-does
returns-in-Err-clause-does g c = λ t x told stands.
    let p = c.args.scene.program.now in
    let there = line_of c.args.scene c.requires.scene c.line_at-line.result.now c.args.state.now.pc (sym (rw c.deref.ensures.value at c.line_at-line.ensures)) in
    let line = ap (slice_get _) stands.pc ∙ there.1 in
    let place = at_place p (g.B.Blocks.blocks c.args.heap.now) c.args.state.now x t stands (there.0).place c.line_at-line.result.now.place there.3 c.unwrap_or-place.result
    c.unwrap_or-place.ensures in
    stops (HasNoRoom g.B.Blocks.has_room c.args.heap.now) (HasNoMemory g.B.Blocks.allows (g.B.Blocks.kept c.args.heap.now) (g.B.Blocks.blocks c.args.heap.now)) p t there.0 line c.unwrap_or-place.result place (g.B.Blocks.blocks c.perform.new.heap) c.perform.new.state
    (state_of g.W.Write.contents c.args.output.now) (state_of g.W.Write.contents c.perform.new.output) c.in-Err.stop c.end_of.result c.end_of.ensures
    (c.in-Err.ensures.does t there.0 x told line there.2 place stands)

-- what the instruction says of the state of the run
pub end_of-requires-clause-found : goal.end_of-requires-clause-found
end_of-requires-clause-found g c =
    let p = c.args.scene.program.now in
    let r = c.requires.ready in
    let there = line_of c.args.scene c.requires.scene c.line_at-line.result.now c.args.state.now.pc (sym (rw c.deref.ensures.value at c.line_at-line.ensures)) in
    let line = ap (slice_get _) (r.stands).pc ∙ there.1 in
    let place = at_place p (g.B.Blocks.blocks c.args.heap.now) c.args.state.now r.rooms r.state r.stands (there.0).place c.line_at-line.result.now.place there.3 c.unwrap_or-place.result
    c.unwrap_or-place.ensures in
    not_lost (HasNoRoom g.B.Blocks.has_room c.args.heap.now) (HasNoMemory g.B.Blocks.allows (g.B.Blocks.kept c.args.heap.now) (g.B.Blocks.blocks c.args.heap.now)) p r.state there.0 line c.unwrap_or-place.result place (g.B.Blocks.blocks c.perform.new.heap) c.perform.new.state
    (state_of g.W.Write.contents c.args.output.now) (state_of g.W.Write.contents c.perform.new.output) (r.roomy).run c.in-Err.stop
    (c.in-Err.ensures.does r.state there.0 r.rooms r.told line there.2 place r.stands)

pub end_of-requires-clause-permitted : goal.end_of-requires-clause-permitted
end_of-requires-clause-permitted g c =
    let p = c.args.scene.program.now in
    let r = c.requires.ready in
    let there = line_of c.args.scene c.requires.scene c.line_at-line.result.now c.args.state.now.pc (sym (rw c.deref.ensures.value at c.line_at-line.ensures)) in
    let line = ap (slice_get _) (r.stands).pc ∙ there.1 in
    let place = at_place p (g.B.Blocks.blocks c.args.heap.now) c.args.state.now r.rooms r.state r.stands (there.0).place c.line_at-line.result.now.place there.3 c.unwrap_or-place.result
    c.unwrap_or-place.ensures in
    not_forbidden (HasNoRoom g.B.Blocks.has_room c.args.heap.now) (HasNoMemory g.B.Blocks.allows (g.B.Blocks.kept c.args.heap.now) (g.B.Blocks.blocks c.args.heap.now)) p r.state there.0 line c.unwrap_or-place.result place (g.B.Blocks.blocks c.perform.new.heap) c.perform.new.state
    (state_of g.W.Write.contents c.args.output.now) (state_of g.W.Write.contents c.perform.new.output) (r.roomy).run c.in-Err.stop
    (c.in-Err.ensures.does r.state there.0 r.rooms r.told line there.2 place r.stands) c.requires.lawful
