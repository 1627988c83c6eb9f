use Rattle.std.proofs.Common.{rules}
use Rattle.f3_tree.specs.Declarations.{shape_view}
use Rattle.f3_reading.proofs.Elements.{at_tokens}
use Rattle.f3_reading.proofs.Choices.{perhaps_reads}
use Rattle.f3_shapes.specs.Shapes.{EatsShapeBehind, EatsShapePerhaps}
use Rattle.f3_shapes.proofs.shapes.shape_perhaps.Goals as goal

pub returns-clause-read : goal.returns-clause-read
unfolding EatsShapePerhaps
returns-clause-read c = perhaps_reads EatsShapeBehind shape_view c.perhaps.ensures.read (λ us one k. at_tokens EatsShapeBehind shape_view k.shown.now us one k.shows (search rules))
