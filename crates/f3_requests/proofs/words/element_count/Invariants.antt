use Rattle.std.proofs.Common.{◌≡◌, ◌*◌, ◌%◌, ◌^◌, drop}
use Rattle.f3_meaning_whole.specs.Value.{count}
use Rattle.f3_meaning_whole.specs.Shape.{spans_declared}
use Rattle.f3_requests.proofs.words.element_count.Given as goal

abbrev pub invariant-loop-dimension : goal.invariant-loop-dimension
invariant-loop-dimension l = (l.n * count (spans_declared (drop l.dimension-index l.dimensions))) % 2 ^ 64 ≡ count (spans_declared l.dimensions) % 2 ^ 64
