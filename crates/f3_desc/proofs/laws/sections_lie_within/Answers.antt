use Rattle.f3_desc.proofs.Sections.{section-place}
use Rattle.f3_desc.proofs.laws.sections_lie_within.Goals as goal

pub returns : goal.returns
returns c = λ a s ts h e ss w. section-place a s ts ss h e.elements w
