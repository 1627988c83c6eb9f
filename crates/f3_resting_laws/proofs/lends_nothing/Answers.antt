use Rattle.f3_resting_laws.proofs.Lines.{lends_nothing_so}
use Rattle.f3_resting_laws.proofs.lends_nothing.Goals as goal

pub returns : goal.returns
returns c = lends_nothing_so c.args.program.now c.args.emission.now c.requires c.lines_lend_nothing.result c.deref.result.now c.deref.ensures.value c.lines_lend_nothing.ensures
