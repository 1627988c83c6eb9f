use Rattle.std.proofs.Common.{◌≡◌, [], map, drop, nat_eq}
use Rattle.indexmap.specs.IndexSet.{insert_all}
use Rattle.f3_names.proofs.describing.symbols_of.Given as goal

abbrev pub invariant-loop-name : goal.invariant-loop-name
invariant-loop-name l =
    insert_all nat_eq l.symbols.keys (map (λ n. n.symbol) (drop l.name-index l.names)) ≡ insert_all nat_eq [] (map (λ n. n.symbol) l.names)
