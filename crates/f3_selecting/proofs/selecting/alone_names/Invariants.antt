use Rattle.std.proofs.Common.{◌≡◌, [], drop, map}
use Rattle.std.specs.List.{flat_map}
use Rattle.indexmap.specs.IndexSet.{insert_all}
use Rattle.f3_scopes.specs.Outlines.{using_view}
use Rattle.f3_selecting.specs.Selecting.{same_selected, only_names}
use Rattle.f3_selecting.proofs.selecting.alone_names.Given as goal

abbrev pub invariant-loop-statement : goal.invariant-loop-statement
invariant-loop-statement l =
    insert_all same_selected l.alone.keys (flat_map only_names (map using_view (drop l.statement-index l.uses))) ≡ insert_all same_selected [] (flat_map only_names (map using_view l.uses))
