use Rattle.std.proofs.Common.{rules}
use Rattle.f3_tree.specs.Declarations.{bounds_view}
use Rattle.f3_reading.proofs.Elements.{list_reads, at_tokens}
use Rattle.f3_shapes.specs.Shapes.{EatsBounds, AreBounds}
use Rattle.f3_shapes.proofs.shapes.all_bounds.Goals as goal

pub returns-clause-read : goal.returns-clause-read
unfolding AreBounds
returns-clause-read c = list_reads EatsBounds bounds_view c.list.ensures.read (λ us one k. at_tokens EatsBounds bounds_view k.shown.now us one k.shows (search rules))
