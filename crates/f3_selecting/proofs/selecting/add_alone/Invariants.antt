use Rattle.std.proofs.Common.{◌≡◌, drop}
use Rattle.std.specs.List.{flat_map}
use Rattle.indexmap.specs.IndexSet.{insert_all}
use Rattle.f3_selecting.specs.Selecting.{same_selected, only_name}
use Rattle.f3_selecting.proofs.selecting.add_alone.Given as goal

abbrev pub invariant-loop-item : goal.invariant-loop-item
invariant-loop-item l =
    insert_all same_selected l.alone.keys (flat_map (only_name l.from) (drop l.item-index l.items)) ≡ insert_all same_selected l.fn.alone.keys (flat_map (only_name l.from) l.items)
