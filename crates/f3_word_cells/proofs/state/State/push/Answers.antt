use Rattle.f3_word_cells.proofs.state.State.push.Goals as goal
use Rattle.f3_word_cells.proofs.Stacks.{pushed}

pub returns : goal.returns
returns c = pushed c.args.cell _ c.args.self.now c.push.new.self c.push.ensures.items c.push.ensures.room c.requires.bottom
