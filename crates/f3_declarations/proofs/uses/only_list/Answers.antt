use Rattle.f3_tree.specs.declared.declaration.Only.{Only}
use Rattle.f3_reading.proofs.Elements.{plain_reads, at_tokens}
use Rattle.f3_declarations.specs.Specifications.{EatsOnly}
use Rattle.f3_declarations.specs.Specifications.{AreOnly}
use Rattle.f3_declarations.proofs.uses.only_list.Goals as goal

pub returns-clause-read : goal.returns-clause-read
unfolding AreOnly
returns-clause-read c = plain_reads EatsOnly c.list.ensures.read (λ us one k. at_tokens EatsOnly (λ (x : Only). x) k.shown.now us one k.shows k.says.met.0)
