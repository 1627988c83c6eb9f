use Rattle.f3_grammar_laws.proofs.Declarations.{uses, accesses, declarations}
use Rattle.f3_grammar_laws.proofs.Headers.{headers, type_begins}
use Rattle.f3_grammar_laws.proofs.laws.declarations_are_one.Goals as goal

pub returns : goal.returns
returns c = (uses, accesses, declarations, headers, type_begins)
