use Rattle.f3_desc.proofs.Orders.{contiguous-fits}
use Rattle.f3_desc.proofs.laws.contiguous_arrays_fit.Goals as goal

pub returns : goal.returns
returns c = contiguous-fits
