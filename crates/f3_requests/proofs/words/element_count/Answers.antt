use Rattle.std.proofs.Common.{arith}
use Rattle.f3_requests.proofs.Sums.{dimensions_next}
use Rattle.f3_requests.proofs.words.element_count.Goals as goal

pub loop-dimension-preserved : goal.loop-dimension-preserved
loop-dimension-preserved c = dimensions_next c.args.dimensions.now c.loop-dimension.dimension-index _ c.loop-dimension.n _ (omega arith) c.loop-dimension.invariant
