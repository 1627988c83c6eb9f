use Rattle.f3_lex.proofs.Chain.{tokens_are_longest}
use Rattle.f3_lex.proofs.law.tokens_are_longest.Goals as goal

pub returns : goal.returns
returns c = tokens_are_longest
