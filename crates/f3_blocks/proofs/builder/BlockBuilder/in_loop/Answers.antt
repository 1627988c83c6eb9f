use Rattle.std.proofs.Common.{◌∙◌, sym, map}
use Rattle.f3_blocks.specs.Machine.{open_view}
use Rattle.f3_blocks.proofs.Moving.{loop_reverse, loop_here, loop_over}
use Rattle.f3_blocks.proofs.builder.BlockBuilder.in_loop.Goals as goal

pub returns-in-Do : goal.returns-in-Do
returns-in-Do c = sym (loop_reverse (map open_view c.args.self.now.constructs.items) ∙ sym c.loop-construct.invariant ∙ loop_here _ _ _ _ _ c.loop-construct-test.true c.construct-item.is c.in-Do.is)

pub returns : goal.returns
returns c = sym (loop_reverse (map open_view c.args.self.now.constructs.items) ∙ sym c.loop-construct.invariant ∙ loop_over _ _ c.loop-construct-test.false)
