use Rattle.std.proofs.Common.{◌≡◌, [], map, drop, nat_eq}
use Rattle.indexmap.specs.IndexSet.{insert_all}
use Rattle.f3_scope_rules.proofs.names.symbols.Given as goal

abbrev pub invariant-loop-name : goal.invariant-loop-name
invariant-loop-name l = insert_all nat_eq l.known.keys (map (λ n. n.symbol) (drop l.name-index l.names)) ≡ insert_all nat_eq [] (map (λ n. n.symbol) l.names)
