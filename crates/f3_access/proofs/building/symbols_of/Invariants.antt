use Rattle.std.proofs.Common.{◌≡◌, [], drop, map, nat_eq}
use Rattle.indexmap.specs.IndexSet.{insert_all}
use Rattle.f3_access.proofs.building.symbols_of.Given as goal

abbrev pub invariant-loop-pair : goal.invariant-loop-pair
invariant-loop-pair l =
    insert_all nat_eq l.symbols.keys (map (λ v. v.symbol) (drop l.pair-index l.pairs)) ≡ insert_all nat_eq [] (map (λ v. v.symbol) l.pairs)
