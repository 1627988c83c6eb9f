use Rattle.std.proofs.Common.{◌≡◌, drop, map, nat_eq}
use Rattle.indexmap.specs.IndexSet.{insert_all}
use Rattle.f3_selecting.proofs.selecting.add_originals.Given as goal

abbrev pub invariant-loop-item : goal.invariant-loop-item
invariant-loop-item l =
    insert_all nat_eq l.names.keys (map (λ i. i.original.symbol) (drop l.item-index l.items)) ≡ insert_all nat_eq l.fn.names.keys (map (λ i. i.original.symbol) l.items)
