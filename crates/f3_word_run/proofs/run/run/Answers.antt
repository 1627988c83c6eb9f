use Rattle.std.proofs.Common.{rules, ◌≡◌, true, inr, sym, subst}
use Rattle.f3_output.specs.Output.{state_of}
use Rattle.f3_program.specs.declared.program.Program.{Program}
use Rattle.f3_word_machine.specs.Room.{IsRoomy}
use Rattle.f3_word_machine.specs.Runs.{IsFull, IsSpent}
use Rattle.f3_word_run.specs.declared.run.Beyond.TheVariants as beyond
use Rattle.f3_word_run.specs.Runs.{HasNoStart}
use Rattle.f3_word_run.proofs.Running.{not_run, ran, too_many}
use Rattle.f3_word_run.proofs.run.run.Goals as goal

pub returns-in_default-stack_needs-clause-runs : goal.returns-in_default-stack_needs-clause-runs
returns-in_default-stack_needs-clause-runs g c =
    let kept = g.B.Blocks.kept c.args.heap.now in
    not_run (HasNoStart g.B.Blocks.blocks g.B.Blocks.kept g.B.Blocks.spent g.B.Blocks.has_room c.args.heap.now c.args.program.now)
    (IsFull g.B.Blocks.blocks g.B.Blocks.kept g.B.Blocks.spent g.B.Blocks.has_room kept) (IsSpent g.B.Blocks.blocks g.B.Blocks.kept g.B.Blocks.spent g.B.Blocks.allows kept) c.args.program.now c.args.steps
    (state_of g.W.Write.contents c.args.output.now) beyond.TooLarge
    (inr (c.in-Ok-needs.needs, c.in-Ok-needs.ensures.not_padded, c.in_default-stack_needs.ensures.told))

pub returns-in_default-room_for-clause-runs : goal.returns-in_default-room_for-clause-runs
returns-in_default-room_for-clause-runs g c =
    let kept = g.B.Blocks.kept c.args.heap.now in
    not_run (HasNoStart g.B.Blocks.blocks g.B.Blocks.kept g.B.Blocks.spent g.B.Blocks.has_room c.args.heap.now c.args.program.now)
    (IsFull g.B.Blocks.blocks g.B.Blocks.kept g.B.Blocks.spent g.B.Blocks.has_room kept) (IsSpent g.B.Blocks.blocks g.B.Blocks.kept g.B.Blocks.spent g.B.Blocks.allows kept) c.args.program.now c.args.steps
    (state_of g.W.Write.contents c.args.output.now) beyond.TooLarge
    (inr (
      c.in-Ok-needs.needs,
      c.in-Ok-needs.ensures.not_padded,
      too_many c.args.program.now c.in-Ok-needs.needs c.in-Some-stack_needs.most c.in-Some-stack_needs.ensures.told c.in_default-room_for.ensures.none,
    ))

pub run_program-requires-clause-roomy : goal.run_program-requires-clause-roomy
run_program-requires-clause-roomy g c = subst (λ (p : Program). IsRoomy p c.in-Some-room_for.room) (sym c.scene-scene.ensures.program)
    (c.in-Some-room_for.ensures.roomy c.args.program.now c.in-Ok-needs.needs c.in-Some-stack_needs.ensures.told c.in-Some-stack_needs.ensures.enough)

pub returns-clause-runs : goal.returns-clause-runs
returns-clause-runs g c =
    let yes : c.is_plain.result ≡ true = search rules in
    let plain = c.is_plain.ensures.0 yes in
    let kept = g.B.Blocks.kept c.args.heap.now in
    ran g.B.Blocks.blocks g.B.Blocks.kept g.B.Blocks.spent g.B.Blocks.has_room c.args.heap.now (IsFull g.B.Blocks.blocks g.B.Blocks.kept g.B.Blocks.spent g.B.Blocks.has_room kept)
    (IsSpent g.B.Blocks.blocks g.B.Blocks.kept g.B.Blocks.spent g.B.Blocks.allows kept) c.scene-scene.result c.args.program.now c.args.steps
    (state_of g.W.Write.contents c.args.output.now) (state_of g.W.Write.contents c.run_program.new.output) c.run_program.result
    c.scene-scene.ensures.program c.scene-scene.ensures.scene plain c.run_program.ensures.runs
