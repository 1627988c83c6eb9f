use Rattle.f3_tree.specs.declared.expression.Name.{Name}
use Rattle.f3_reading.proofs.Elements.{at_tokens}
use Rattle.f3_reading.proofs.Choices.{plain_perhaps}
use Rattle.f3_reading.specs.Names.{EatsEnclosedName}
use Rattle.f3_declarations.specs.Specifications.{EatsResultPerhaps}
use Rattle.f3_declarations.proofs.procedures.outcome_perhaps.Goals as goal

pub returns : goal.returns
unfolding EatsResultPerhaps
returns c = plain_perhaps EatsEnclosedName c.perhaps.ensures.read (λ us one k. at_tokens EatsEnclosedName (λ (x : Name). x) k.shown.now us one k.shows k.says.met.0)
