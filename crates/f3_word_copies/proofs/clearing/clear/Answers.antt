use Rattle.f3_word_copies.proofs.Cleared.{clears}
use Rattle.f3_word_copies.proofs.clearing.clear.Goals as goal

pub returns-clause-does : goal.returns-clause-does
returns-clause-does c = clears c.args.state.now c.advance.new.self c.advance.ensures
