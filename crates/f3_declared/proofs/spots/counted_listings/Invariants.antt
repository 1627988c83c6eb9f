use Rattle.std.proofs.Common.{◌≡◌, ℕ, nat_eq, map, take, length, filter, unwrap_or}
use Rattle.std.specs.List.{flat_map}
use Rattle.indexmap.specs.IndexMap.{get}
use Rattle.f3_scopes.specs.Given.{protects_in}
use Rattle.f3_tree.specs.declared.expression.Name.{Name}
use Rattle.f3_tree.specs.Declarations.{specification_view}
use Rattle.f3_declared.specs.Standings.{standing}
use Rattle.f3_declared.proofs.spots.counted_listings.Given as goal

abbrev pub invariant-loop-specification : goal.invariant-loop-specification
invariant-loop-specification l =
    (q : ℕ) → unwrap_or (get nat_eq l.standings q) (standing 0)
    ≡ standing (length (filter (nat_eq q) (map (λ (m : Name). m.symbol) (flat_map protects_in (map specification_view (take l.specification-index l.part))))))
