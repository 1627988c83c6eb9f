use Rattle.std.proofs.Common.{arith}
use Rattle.f3_requests.proofs.Sums.{spans_next}
use Rattle.f3_requests.proofs.extents.element_count.Goals as goal

pub loop-span-preserved : goal.loop-span-preserved
loop-span-preserved c = spans_next c.args.spans.now c.loop-span.span-index _ c.loop-span.n _ (omega arith) c.loop-span.invariant
