use Rattle.std.proofs.Common.{◌≡◌, ◌++◌, ℕ, drop, nat_eq}
use Rattle.indexmap.specs.IndexMap.{get}
use Rattle.f3_selecting.specs.Places.{places_in}
use Rattle.f3_access.specs.Parts.{places_from}
use Rattle.f3_access.proofs.building.places_of.Given as goal

abbrev pub invariant-loop-place : goal.invariant-loop-place
invariant-loop-place l =
    (n : ℕ) → places_in (get nat_eq l.places n) ++ places_from l.place (drop l.place l.pairs) n ≡ places_from 0 l.pairs n
