use Rattle.f3_tree.specs.declared.expression.Name.{Name}
use Rattle.f3_reading.specs.Parts.{EatsName}
use Rattle.f3_reading.specs.Names.{AreNames}
use Rattle.f3_reading.proofs.Elements.{plain_reads, at_tokens}
use Rattle.f3_reading.proofs.names.names.Goals as goal

pub returns-clause-read : goal.returns-clause-read
unfolding AreNames
returns-clause-read c = plain_reads EatsName c.list.ensures.read (λ us one k. at_tokens EatsName (λ (n : Name). n) k.shown.now us one k.shows k.says.met.0)
