use Rattle.std.proofs.Common.{◌≡◌, suc, ◌-◌, refl, ap, Err, arith}
use Rattle.f3_output.specs.Output.{state_of}
use Rattle.f3_word_start.specs.Begins.{LacksRoom}
use Rattle.f3_word_machine.specs.Runs.{IsFull, IsSpent}
use Rattle.f3_word_machine.proofs.Beginning.{first, first_told, first_ready, whole, no_steps, no_memory, refused}
use Rattle.f3_word_machine.proofs.Keeping.{full_on, kept_on, spent_on}
use Rattle.f3_word_machine.proofs.Roomy.{ready_room}
use Rattle.f3_word_machine.proofs.whole.run_program.Goals as goal

pub returns-then-steps-eq0-clause-runs : goal.returns-then-steps-eq0-clause-runs
returns-then-steps-eq0-clause-runs g c =
    let kept = g.B.Blocks.kept c.args.heap.now in
    no_steps c.args.scene.program.now (LacksRoom g.B.Blocks.blocks g.B.Blocks.kept g.B.Blocks.spent g.B.Blocks.has_room c.args.heap.now c.args.scene.statics.now.words c.args.scene.main.now.words)
    (IsFull g.B.Blocks.blocks g.B.Blocks.kept g.B.Blocks.spent g.B.Blocks.has_room kept) (IsSpent g.B.Blocks.blocks g.B.Blocks.kept g.B.Blocks.spent g.B.Blocks.allows kept)
    (state_of g.W.Write.contents c.args.output.now) c.args.steps c.if-steps-eq0.true

pub returns-then-steps-eq0-clause-kept : goal.returns-then-steps-eq0-clause-kept
returns-then-steps-eq0-clause-kept g c = (0, refl)

pub run-end-requires-clause-ready : goal.run-end-requires-clause-ready
run-end-requires-clause-ready g c =
    let made = c.in-Ok.ensures in
    first_ready c.args.scene.program.now (g.B.Blocks.blocks c.begin.new.heap) c.in-Ok.state c.requires.plain c.requires.formed c.requires.sense made.begun

pub run-end-requires-clause-roomy : goal.run-end-requires-clause-roomy
run-end-requires-clause-roomy g c = ready_room c.args.scene.program.now c.args.room c.in-Ok.state c.in-Ok.ensures.ready c.requires.roomy

pub returns-in-Ok-clause-runs : goal.returns-in-Ok-clause-runs
returns-in-Ok-clause-runs g c =
    let p = c.args.scene.program.now in
    let live = g.B.Blocks.blocks c.begin.new.heap in
    let made = c.in-Ok.ensures in
    let more : c.args.steps ≡ suc (c.args.steps - 1) = omega (arith, c.if-steps-eq0.false) in
    let kept = g.B.Blocks.kept c.args.heap.now in
    let then = g.B.Blocks.kept c.begin.new.heap in
    whole p live c.in-Ok.state made.begun c.args.steps (c.args.steps - 1) (state_of g.W.Write.contents c.args.output.now) (state_of g.W.Write.contents c.run-end.new.output) more
    (IsFull g.B.Blocks.blocks g.B.Blocks.kept g.B.Blocks.spent g.B.Blocks.has_room then) (IsSpent g.B.Blocks.blocks g.B.Blocks.kept g.B.Blocks.spent g.B.Blocks.allows then)
    (IsFull g.B.Blocks.blocks g.B.Blocks.kept g.B.Blocks.spent g.B.Blocks.has_room kept) (IsSpent g.B.Blocks.blocks g.B.Blocks.kept g.B.Blocks.spent g.B.Blocks.allows kept)
    (full_on g.B.Blocks.blocks g.B.Blocks.kept g.B.Blocks.spent g.B.Blocks.has_room kept then made.kept) (spent_on g.B.Blocks.blocks g.B.Blocks.kept g.B.Blocks.spent g.B.Blocks.allows kept then made.kept)
    (LacksRoom g.B.Blocks.blocks g.B.Blocks.kept g.B.Blocks.spent g.B.Blocks.has_room c.args.heap.now c.args.scene.statics.now.words c.args.scene.main.now.words) c.run-end.result
    (c.run-end.ensures.runs (first p) made.begun.rooms
    (first_told p live c.in-Ok.state c.requires.plain c.requires.formed c.requires.sense made.begun) (made.begun.stands _))

pub returns-in-Ok-clause-kept : goal.returns-in-Ok-clause-kept
returns-in-Ok-clause-kept g c =
    kept_on g.B.Blocks.spent (g.B.Blocks.kept c.args.heap.now) (g.B.Blocks.kept c.begin.new.heap) (g.B.Blocks.kept c.run-end.new.heap) c.in-Ok.ensures.kept c.run-end.ensures.kept

pub returns-in-Err-Full-clause-runs : goal.returns-in-Err-Full-clause-runs
returns-in-Err-Full-clause-runs g c =
    let made = c.in-Err-Full.ensures in
    let full = made.full (ap Err c.in-Err-Full.field-0-is) in
    let kept = g.B.Blocks.kept c.args.heap.now in
    refused c.args.scene.program.now (LacksRoom g.B.Blocks.blocks g.B.Blocks.kept g.B.Blocks.spent g.B.Blocks.has_room c.args.heap.now c.args.scene.statics.now.words c.args.scene.main.now.words)
    (IsFull g.B.Blocks.blocks g.B.Blocks.kept g.B.Blocks.spent g.B.Blocks.has_room kept) (IsSpent g.B.Blocks.blocks g.B.Blocks.kept g.B.Blocks.spent g.B.Blocks.allows kept)
    (state_of g.W.Write.contents c.args.output.now) c.args.steps (omega (arith, c.if-steps-eq0.false)) full.0 full.1

pub returns-in-Err-Memory-clause-runs : goal.returns-in-Err-Memory-clause-runs
returns-in-Err-Memory-clause-runs g c =
    let kept = g.B.Blocks.kept c.args.heap.now in
    no_memory c.args.scene.program.now (LacksRoom g.B.Blocks.blocks g.B.Blocks.kept g.B.Blocks.spent g.B.Blocks.has_room c.args.heap.now c.args.scene.statics.now.words c.args.scene.main.now.words)
    (IsFull g.B.Blocks.blocks g.B.Blocks.kept g.B.Blocks.spent g.B.Blocks.has_room kept) (IsSpent g.B.Blocks.blocks g.B.Blocks.kept g.B.Blocks.spent g.B.Blocks.allows kept)
    (state_of g.W.Write.contents c.args.output.now) c.args.steps
