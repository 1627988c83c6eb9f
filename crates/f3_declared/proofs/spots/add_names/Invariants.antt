use Rattle.std.proofs.Common.{◌≡◌, ◌+◌, ℕ, nat_eq, map, take, length, filter, unwrap_or}
use Rattle.indexmap.specs.IndexMap.{get}
use Rattle.f3_tree.specs.declared.expression.Name.{Name}
use Rattle.f3_declared.specs.Standings.{standing}
use Rattle.f3_declared.proofs.spots.add_names.Given as goal

abbrev pub invariant-loop-name : goal.invariant-loop-name
invariant-loop-name l =
    (q n : ℕ) → unwrap_or (get nat_eq l.fn.standings q) (standing 0) ≡ standing n
    → unwrap_or (get nat_eq l.standings q) (standing 0) ≡ standing (n + length (filter (nat_eq q) (map (λ (m : Name). m.symbol) (take l.name-index l.names))))
