use Rattle.f3_scope_rules.proofs.Constructs.{construct_breaks}
use Rattle.f3_scope_rules.proofs.laws.construct_breaks_are_n3.Goals as goal

pub returns : goal.returns
returns c = construct_breaks
