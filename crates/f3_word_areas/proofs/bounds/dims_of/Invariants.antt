use Rattle.std.proofs.Common.{drop}
use Rattle.f3_word_areas.proofs.Laying.{Laying}
use Rattle.f3_word_areas.proofs.bounds.dims_of.Given as goal

abbrev pub invariant-loop-dimension : goal.invariant-loop-dimension
invariant-loop-dimension l = Laying l.dimensions l.words l.dims.items l.stride (drop l.dimension-index l.dimensions)
