use Rattle.std.proofs.Common.{◌∙◌, ap}
use Rattle.f3_data.proofs.Rows.{array_is, array_of}
use Rattle.f3_data.proofs.value.array.Goals as goal

pub returns : goal.returns
returns c = array_is c.in_ok-elements.elements ∙ ap array_of c.in_ok-elements.ensures.ok
