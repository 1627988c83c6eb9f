use Rattle.std.proofs.Common.{rules}
use Rattle.f3_reading.proofs.Elements.{list_reads, at_tokens}
use Rattle.f3_shapes.specs.Shapes.{lower_view, EatsLower, AreLowers}
use Rattle.f3_shapes.proofs.shapes.lowers.Goals as goal

pub returns-clause-read : goal.returns-clause-read
unfolding AreLowers
returns-clause-read c = list_reads EatsLower lower_view c.list.ensures.read (λ us one k. at_tokens EatsLower lower_view k.shown.now us one k.shows (search rules))
