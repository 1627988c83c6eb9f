use Rattle.std.proofs.Common.{◌≡◌, drop, map, nat_eq}
use Rattle.std.specs.List.{flat_map}
use Rattle.indexmap.specs.IndexSet.{insert_all}
use Rattle.f3_scopes.specs.Outlines.{own_view}
use Rattle.f3_selecting.specs.Private.{given_name}
use Rattle.f3_selecting.proofs.choosing.add_given.Given as goal

abbrev pub invariant-loop-declaration : goal.invariant-loop-declaration
invariant-loop-declaration l =
    insert_all nat_eq l.named.keys (flat_map (given_name l.access) (map own_view (drop l.declaration-index l.declared)))
    ≡ insert_all nat_eq l.fn.named.keys (flat_map (given_name l.access) (map own_view l.declared))
