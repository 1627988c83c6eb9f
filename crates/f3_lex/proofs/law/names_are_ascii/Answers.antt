use Rattle.f3_lex.proofs.Laws.{name_is_ascii}
use Rattle.f3_lex.proofs.law.names_are_ascii.Goals as goal

pub returns : goal.returns
returns c = name_is_ascii
