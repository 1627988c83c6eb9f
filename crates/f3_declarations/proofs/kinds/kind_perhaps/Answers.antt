use Rattle.f3_tree.specs.declared.expression.IntegerKind.{IntegerKind}
use Rattle.f3_reading.proofs.Elements.{at_tokens}
use Rattle.f3_reading.proofs.Choices.{plain_perhaps}
use Rattle.f3_declarations.specs.Kinds.{EatsKindBehind, EatsKindPerhaps}
use Rattle.f3_declarations.proofs.kinds.kind_perhaps.Goals as goal

pub returns-clause-read : goal.returns-clause-read
unfolding EatsKindPerhaps
returns-clause-read c = plain_perhaps EatsKindBehind c.perhaps.ensures.read (λ us one k. at_tokens EatsKindBehind (λ (x : IntegerKind). x) k.shown.now us one k.shows k.says.met.0)
