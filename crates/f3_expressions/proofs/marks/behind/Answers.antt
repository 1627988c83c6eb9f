use Rattle.f3_expressions.proofs.Fronts.{front_of}
use Rattle.f3_expressions.proofs.marks.behind.Goals as goal

pub returns : goal.returns
returns c = front_of c.args.word c.behind.result c.args.items.now c.behind.ensures
