use Rattle.std.proofs.Common.{arith}
use Rattle.f3_output.specs.Output.{state_of}
use Rattle.f3_word_machine.specs.Runs.{IsFull, IsSpent}
use Rattle.f3_word_machine.proofs.Course.{at_limit}
use Rattle.f3_word_machine.proofs.running.run.Goals as goal

pub returns-in-Some-clause-runs : goal.returns-in-Some-clause-runs
returns-in-Some-clause-runs g c = λ t x told stands. c.in-Some.ensures.goes t x told stands c.args.steps (omega arith)

pub returns-in-None-clause-runs : goal.returns-in-None-clause-runs
returns-in-None-clause-runs g c = λ t x told stands.
    let kept = g.B.Blocks.kept c.args.heap.now in
    at_limit c.args.scene.program.now t (IsFull g.B.Blocks.blocks g.B.Blocks.kept g.B.Blocks.spent g.B.Blocks.has_room kept)
    (IsSpent g.B.Blocks.blocks g.B.Blocks.kept g.B.Blocks.spent g.B.Blocks.allows kept) c.args.steps (g.B.Blocks.blocks c.run_for.new.heap) c.run_for.new.state
    (state_of g.W.Write.contents c.args.output.now) (state_of g.W.Write.contents c.run_for.new.output) (c.in-None.ensures.goes t x told stands)
