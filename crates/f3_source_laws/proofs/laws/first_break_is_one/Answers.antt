use Rattle.f3_source_laws.proofs.Firsts.{firsts}
use Rattle.f3_source_laws.proofs.laws.first_break_is_one.Goals as goal

pub returns : goal.returns
returns c = firsts
