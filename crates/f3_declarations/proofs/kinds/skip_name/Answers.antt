use Rattle.f3_declarations.proofs.KindNames.{no_kind_name, kind_name}
use Rattle.f3_declarations.proofs.kinds.skip_name.Goals as goal

pub returns-in-Some-clause-read : goal.returns-in-Some-clause-read
returns-in-Some-clause-read c = kind_name c.args.items.now c.in-Some.tail.now c.in-Some.ensures.0 c.skip.result c.skip.ensures.read

pub returns-in-None-clause-read : goal.returns-in-None-clause-read
returns-in-None-clause-read c = no_kind_name c.args.items.now c.in-None.ensures
