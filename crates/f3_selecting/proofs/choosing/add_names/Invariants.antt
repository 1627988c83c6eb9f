use Rattle.std.proofs.Common.{◌≡◌, drop, map, nat_eq}
use Rattle.indexmap.specs.IndexSet.{insert_all}
use Rattle.f3_selecting.proofs.choosing.add_names.Given as goal

abbrev pub invariant-loop-name : goal.invariant-loop-name
invariant-loop-name l =
    insert_all nat_eq l.named.keys (map (λ n. n.symbol) (drop l.name-index l.names)) ≡ insert_all nat_eq l.fn.named.keys (map (λ n. n.symbol) l.names)
