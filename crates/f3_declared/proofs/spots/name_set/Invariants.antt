use Rattle.std.proofs.Common.{◌≡◌, ℕ, nat_eq, map, take}
use Rattle.std.specs.List.{list_any}
use Rattle.indexmap.specs.IndexSet.{contains}
use Rattle.f3_tree.specs.declared.expression.Name.{Name}
use Rattle.f3_declared.proofs.spots.name_set.Given as goal

abbrev pub invariant-loop-name : goal.invariant-loop-name
invariant-loop-name l = (q : ℕ) → contains nat_eq l.symbols q ≡ list_any (nat_eq q) (map (λ (n : Name). n.symbol) (take l.name-index l.names))
