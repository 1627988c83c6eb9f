use Rattle.std.proofs.Common.{◌<◌, length, arith}
use Rattle.f3_word_cells.proofs.state.State.pop.Goals as goal
use Rattle.f3_word_cells.proofs.Stacks.{popped_or}

pub returns : goal.returns
returns c =
    let above : c.args.self.now.base < length c.args.self.now.cells.items.items = omega arith in
    popped_or c.pop.result c.args.self.now c.pop.new.self c.pop.ensures.items c.pop.ensures.room above
