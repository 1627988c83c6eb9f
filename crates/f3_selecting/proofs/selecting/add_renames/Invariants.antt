use Rattle.std.proofs.Common.{◌≡◌, ◌++◌, drop}
use Rattle.indexmap.specs.IndexMap.{get}
use Rattle.f3_selecting.specs.declared.selecting.Selected.{Selected}
use Rattle.f3_selecting.specs.Selecting.{same_selected, locals_in, locals_from}
use Rattle.f3_selecting.proofs.selecting.add_renames.Given as goal

abbrev pub invariant-loop-item : goal.invariant-loop-item
invariant-loop-item l =
    (k : Selected) → locals_in (get same_selected l.renamed k) ++ locals_from l.from (drop l.item-index l.items) k ≡ locals_in (get same_selected l.fn.renamed k) ++ locals_from l.from l.items k
