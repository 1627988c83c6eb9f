use Rattle.std.proofs.Common.{◌≡◌, drop}
use Rattle.std.specs.List.{flat_map}
use Rattle.indexmap.specs.IndexSet.{insert_all}
use Rattle.f3_access.specs.Listing.{same_pair}
use Rattle.f3_access.specs.Inner.Calling.{called_by}
use Rattle.f3_access.proofs.bringing.add_module.Given as goal

abbrev pub invariant-loop-export : goal.invariant-loop-export
invariant-loop-export l =
    insert_all same_pair l.table.keys (flat_map (called_by l.selections l.from) (drop l.export-index l.exports))
    ≡ insert_all same_pair l.fn.table.keys (flat_map (called_by l.selections l.from) l.exports)
