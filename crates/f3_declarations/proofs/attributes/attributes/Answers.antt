use Rattle.std.proofs.Common.{rules}
use Rattle.f3_tree.specs.Declarations.{placed_view}
use Rattle.f3_reading.proofs.Elements.{at_tokens}
use Rattle.f3_reading.proofs.Choices.{others_read}
use Rattle.f3_declarations.specs.Specifications.{EatsAttribute}
use Rattle.f3_declarations.specs.Specifications.{AreAttributes, EatsAttributes}
use Rattle.f3_declarations.proofs.attributes.attributes.Goals as goal

pub returns-clause-read : goal.returns-clause-read
unfolding EatsAttributes AreAttributes
returns-clause-read c = others_read EatsAttribute placed_view c.others.ensures.read (λ us one k. at_tokens EatsAttribute placed_view k.shown.now us one k.shows (search rules))
