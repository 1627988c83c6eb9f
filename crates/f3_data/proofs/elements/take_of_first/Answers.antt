use Rattle.std.proofs.Common.{sym}
use Rattle.f3_data.specs.Values.{value_of}
use Rattle.f3_data.specs.Stores.{steps_of}
use Rattle.f3_data.specs.References.{counted}
use Rattle.f3_data.proofs.Counted.{counted_at, counted_past}
use Rattle.f3_data.proofs.Putting.{row_more, row_past}
use Rattle.f3_data.proofs.elements.take_of_first.Goals as goal

pub returns-then-k-count-clause-values : goal.returns-then-k-count-clause-values
returns-then-k-count-clause-values c = λ xs. row_more _ _ (steps_of c.args.tail.now) (counted 0 c.args.count) c.args.k c.args.k (value_of c.args.new) xs (counted_at c.args.count c.args.k c.if-k-count.true) c.take_at.ensures.values

pub returns-else-k-count-clause-values : goal.returns-else-k-count-clause-values
returns-else-k-count-clause-values c = λ xs. row_past _ (steps_of c.args.tail.now) (counted 0 c.args.count) c.args.k (value_of c.args.new) xs (sym (counted_past c.args.count c.args.k c.if-k-count.false))
