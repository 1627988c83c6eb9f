use Rattle.f3_desc.proofs.CutWalk.{Cutting}
use Rattle.f3_desc.proofs.descriptor.Descriptor.section.Given as goal

abbrev pub invariant-loop-dim : goal.invariant-loop-dim
invariant-loop-dim l = Cutting l.self l.triplets l.offset l.dims.items l.dim-iterator.a.rest.now l.dim-iterator.b.rest.now
