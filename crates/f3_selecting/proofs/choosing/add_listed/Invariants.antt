use Rattle.std.proofs.Common.{◌≡◌, drop, map, nat_eq}
use Rattle.std.specs.List.{flat_map}
use Rattle.indexmap.specs.IndexSet.{insert_all}
use Rattle.f3_scopes.specs.Outlines.{listed_view}
use Rattle.f3_selecting.specs.Private.{listed_names}
use Rattle.f3_selecting.proofs.choosing.add_listed.Given as goal

abbrev pub invariant-loop-statement : goal.invariant-loop-statement
invariant-loop-statement l =
    insert_all nat_eq l.named.keys (flat_map (listed_names l.access) (map listed_view (drop l.statement-index l.statements)))
    ≡ insert_all nat_eq l.fn.named.keys (flat_map (listed_names l.access) (map listed_view l.statements))
