use Rattle.std.proofs.Common.{◌≡◌, ◌+◌, map, take}
use Rattle.f3_sizes.proofs.needs.raised.Given as goal

abbrev pub invariant-loop-one : goal.invariant-loop-one
invariant-loop-one l = l.found.items ≡ map (λ n. n + l.more) (take l.one-index l.cells)
