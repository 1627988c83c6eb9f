use Rattle.f3_desc.proofs.Orders.{contiguous}
use Rattle.f3_desc.proofs.laws.contiguous_arrays.Goals as goal

pub returns : goal.returns
returns c = contiguous
