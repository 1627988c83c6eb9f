use Rattle.std.proofs.Common.{◌≡◌, ◌++◌, drop, map}
use Rattle.std.specs.List.{flat_map}
use Rattle.indexmap.specs.IndexMap.{get}
use Rattle.f3_scopes.specs.Outlines.{using_view}
use Rattle.f3_selecting.specs.declared.selecting.Selected.{Selected}
use Rattle.f3_selecting.specs.Selecting.{same_selected, locals_in, locals_from}
use Rattle.f3_selecting.proofs.selecting.renamed_names.Given as goal

abbrev pub invariant-loop-statement : goal.invariant-loop-statement
invariant-loop-statement l =
    (k : Selected) → locals_in (get same_selected l.renamed k) ++ flat_map (λ u. locals_from u.from.symbol u.items k) (map using_view (drop l.statement-index l.uses))
    ≡ flat_map (λ u. locals_from u.from.symbol u.items k) (map using_view l.uses)
