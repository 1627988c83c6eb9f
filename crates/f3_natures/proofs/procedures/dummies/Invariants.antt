use Rattle.std.proofs.Common.{◌≡◌, map, drop, nat_eq}
use Rattle.indexmap.specs.IndexMap.{get}
use Rattle.f3_natures.specs.Entries.{firsts, firsts_after}
use Rattle.f3_natures.specs.Procedures.{dummy_entry}
use Rattle.f3_natures.proofs.procedures.dummies.Given as goal

abbrev pub invariant-loop-name : goal.invariant-loop-name
invariant-loop-name l =
    firsts_after l.found.entries (map (dummy_entry (get nat_eq l.locals)) (drop l.name-index l.list)) ≡ firsts (map (dummy_entry (get nat_eq l.locals)) l.list)
