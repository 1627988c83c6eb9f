use Rattle.std.proofs.Common.{◌≡◌, ℕ, drop, nat_eq}
use Rattle.indexmap.specs.IndexMap.{get}
use Rattle.f3_lookups.specs.declared.lookup.Lookup.TheVariants.{Nothing}
use Rattle.f3_access.specs.Parts.{found, meaning}
use Rattle.f3_access.proofs.building.lookups_of.Given as goal

abbrev pub invariant-loop-pair : goal.invariant-loop-pair
invariant-loop-pair l =
    (n : ℕ) → meaning (found (get nat_eq l.lookups n)) (drop l.pair-index l.own) n ≡ meaning Nothing l.own n
