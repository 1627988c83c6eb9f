use Rattle.std.proofs.Common.{◌≡◌, [], drop, nat_eq}
use Rattle.std.specs.List.{flat_map}
use Rattle.indexmap.specs.IndexSet.{insert_all}
use Rattle.indexmap.specs.IndexMap.{get}
use Rattle.f3_access.specs.Listing.{same_pair, exports_of}
use Rattle.f3_access.specs.Inner.Calling.{called_by}
use Rattle.f3_access.specs.Parts.{exports_at}
use Rattle.f3_access.proofs.bringing.selected_by.Given as goal

abbrev pub invariant-loop-symbol : goal.invariant-loop-symbol
invariant-loop-symbol l =
    insert_all same_pair l.table.keys (flat_map (λ m. flat_map (called_by l.selections m) (exports_of (exports_at l.tables) (get nat_eq l.modules m))) (drop l.symbol-index l.symbol-items))
    ≡ insert_all same_pair [] (flat_map (λ m. flat_map (called_by l.selections m) (exports_of (exports_at l.tables) (get nat_eq l.modules m))) l.symbol-items)
