use Rattle.f3_allocation_steps.proofs.Dimensions.{too_many_at}
use Rattle.f3_allocation_steps.proofs.allocating.spans_in.Goals as goal

pub returns-in_default : goal.returns-in_default
returns-in_default c = too_many_at c.args.extents.now c.loop-dimension.dimension-index _ c.loop-dimension-test.true c.in_default.ensures
