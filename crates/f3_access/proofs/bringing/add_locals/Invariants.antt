use Rattle.std.proofs.Common.{◌≡◌, drop, map}
use Rattle.indexmap.specs.IndexSet.{insert_all}
use Rattle.f3_access.specs.Listing.{same_pair, pair}
use Rattle.f3_access.proofs.bringing.add_locals.Given as goal

abbrev pub invariant-loop-local : goal.invariant-loop-local
invariant-loop-local l =
    insert_all same_pair l.table.keys (map (λ n. pair n l.entity) (drop l.local-index l.locals)) ≡ insert_all same_pair l.fn.table.keys (map (λ n. pair n l.entity) l.locals)
