use Rattle.f3_desc.proofs.Walk.{Walks}
use Rattle.f3_desc.proofs.descriptor.Descriptor.element.Given as goal

abbrev pub invariant-loop-dim : goal.invariant-loop-dim
invariant-loop-dim l = Walks l.self l.subscripts l.at l.dim-iterator.a.rest.now l.dim-iterator.b.rest.now
