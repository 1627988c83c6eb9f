use Rattle.std.proofs.Common.{◌≡◌, map, take}
use Rattle.f3_graph.proofs.unit_order.Given as goal

abbrev pub invariant-loop-number : goal.invariant-loop-number
invariant-loop-number l = map (λ u. u.number) l.units.items ≡ take l.number-index l.numbers
