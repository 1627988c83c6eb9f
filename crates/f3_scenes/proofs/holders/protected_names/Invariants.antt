use Rattle.std.proofs.Common.{◌≡◌, ◌||◌, ℕ, nat_eq, drop}
use Rattle.std.specs.List.{list_any}
use Rattle.indexmap.specs.IndexSet.{contains}
use Rattle.f3_tree.specs.declared.expression.Name.{Name}
use Rattle.f3_scenes.proofs.holders.protected_names.Given as goal

abbrev pub invariant-loop-name : goal.invariant-loop-name
invariant-loop-name l =
    (k : ℕ) → (contains nat_eq l.found k || list_any (λ (n : Name). nat_eq n.symbol k) (drop l.name-index l.list)) ≡ list_any (λ (n : Name). nat_eq n.symbol k) l.list
