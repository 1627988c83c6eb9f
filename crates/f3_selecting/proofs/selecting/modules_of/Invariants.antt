use Rattle.std.proofs.Common.{◌≡◌, [], drop, map, nat_eq}
use Rattle.indexmap.specs.IndexSet.{insert_all}
use Rattle.f3_scopes.specs.Outlines.{using_view}
use Rattle.f3_selecting.proofs.selecting.modules_of.Given as goal

abbrev pub invariant-loop-statement : goal.invariant-loop-statement
invariant-loop-statement l =
    insert_all nat_eq l.modules.keys (map (λ u. u.from.symbol) (map using_view (drop l.statement-index l.uses))) ≡ insert_all nat_eq [] (map (λ u. u.from.symbol) (map using_view l.uses))
