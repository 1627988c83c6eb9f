use Rattle.std.proofs.Common.{◌≡◌, map, take}
use Rattle.f3_data.specs.Values.{spans_of}
use Rattle.f3_cells.specs.Popped.{extent_in}
use Rattle.f3_allocation_steps.proofs.allocating.spans_in.Given as goal

abbrev pub invariant-loop-dimension : goal.invariant-loop-dimension
invariant-loop-dimension l = spans_of l.spans.items ≡ map extent_in (take l.dimension-index l.extents)
