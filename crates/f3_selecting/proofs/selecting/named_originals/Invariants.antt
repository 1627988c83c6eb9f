use Rattle.std.proofs.Common.{◌≡◌, ℕ, [], drop, map, nat_eq}
use Rattle.std.specs.List.{flat_map}
use Rattle.indexmap.specs.IndexMap.{get}
use Rattle.indexmap.specs.IndexSet.{insert_all}
use Rattle.f3_scopes.specs.Outlines.{using_view}
use Rattle.f3_selecting.specs.Selecting.{names_in, originals_from}
use Rattle.f3_selecting.proofs.selecting.named_originals.Given as goal

abbrev pub invariant-loop-statement : goal.invariant-loop-statement
invariant-loop-statement l =
    (m : ℕ) → insert_all nat_eq (names_in (get nat_eq l.named m)) (flat_map (λ u. originals_from u.from.symbol u.items m) (map using_view (drop l.statement-index l.uses)))
    ≡ insert_all nat_eq [] (flat_map (λ u. originals_from u.from.symbol u.items m) (map using_view l.uses))
