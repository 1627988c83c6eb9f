use Rattle.std.proofs.Common.{◌≡◌, take}
use Rattle.f3_meaning_whole.specs.Shape.{spans_declared}
use Rattle.f3_data.specs.Values.{spans_of}
use Rattle.f3_shaping.proofs.initial.spans_declared.Given as goal

abbrev pub invariant-loop-dimension : goal.invariant-loop-dimension
invariant-loop-dimension l = spans_of l.spans.items ≡ spans_declared (take l.dimension-index l.dimensions)
