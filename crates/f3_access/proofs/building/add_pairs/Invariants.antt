use Rattle.std.proofs.Common.{◌≡◌, drop}
use Rattle.indexmap.specs.IndexSet.{insert_all}
use Rattle.f3_access.specs.Listing.{same_pair}
use Rattle.f3_access.proofs.building.add_pairs.Given as goal

abbrev pub invariant-loop-pair : goal.invariant-loop-pair
invariant-loop-pair l =
    insert_all same_pair l.table.keys (drop l.pair-index l.pairs) ≡ insert_all same_pair l.fn.table.keys l.pairs
