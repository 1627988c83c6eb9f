use Rattle.std.proofs.Common.{◌≡◌, [], drop, map, nat_eq}
use Rattle.std.specs.List.{flat_map}
use Rattle.indexmap.specs.IndexSet.{insert_all}
use Rattle.f3_scopes.specs.Outlines.{using_view}
use Rattle.f3_selecting.specs.Selecting.{open_name}
use Rattle.f3_selecting.proofs.selecting.open_modules.Given as goal

abbrev pub invariant-loop-statement : goal.invariant-loop-statement
invariant-loop-statement l =
    insert_all nat_eq l.whole.keys (flat_map open_name (map using_view (drop l.statement-index l.uses))) ≡ insert_all nat_eq [] (flat_map open_name (map using_view l.uses))
