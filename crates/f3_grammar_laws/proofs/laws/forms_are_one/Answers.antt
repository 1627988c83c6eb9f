use Rattle.f3_grammar_laws.proofs.Actions.{actions}
use Rattle.f3_grammar_laws.proofs.Forms.{forms}
use Rattle.f3_grammar_laws.proofs.laws.forms_are_one.Goals as goal

pub returns : goal.returns
returns c = (actions, forms)
