use Rattle.std.proofs.Common.{◌≡◌, drop}
use Rattle.std.specs.List.{flat_map}
use Rattle.indexmap.specs.IndexSet.{insert_all}
use Rattle.f3_access.specs.Listing.{same_pair}
use Rattle.f3_access.specs.Inner.Calling.{called_by}
use Rattle.f3_access.specs.Inner.Walk.{RestIsSilent}
use Rattle.f3_access.proofs.bringing.add_places.Given as goal

abbrev pub invariant-loop-place : goal.invariant-loop-place
invariant-loop-place l =
    (insert_all same_pair l.table.keys (flat_map (called_by l.selections l.from) (drop l.next l.exports)) ≡ insert_all same_pair l.fn.table.keys (flat_map (called_by l.selections l.from) l.exports))
    × RestIsSilent (called_by l.selections l.from) l.exports l.next l.places l.place-index
