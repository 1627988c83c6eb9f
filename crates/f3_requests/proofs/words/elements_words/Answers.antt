use Rattle.std.proofs.Common.{arith, length, refl}
use Rattle.f3_requests.proofs.Wording.{no_constants, one_constant, many_constants}
use Rattle.f3_requests.proofs.words.elements_words.Goals as goal

pub returns-then-count-eq0 : goal.returns-then-count-eq0
returns-then-count-eq0 c = λ k v h e. no_constants c.args.constants.now k v c.args.n c.args.element (omega arith) h e

pub returns-then-count-eq1 : goal.returns-then-count-eq1
returns-then-count-eq1 c = λ k v h e. one_constant c.args.constants.now k v c.args.n (omega arith) h

pub returns : goal.returns
returns c = λ k v h e. many_constants c.args.constants.now k v (length c.args.constants.now) refl (omega arith) (omega arith)
