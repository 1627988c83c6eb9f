use Rattle.std.proofs.Common.{◌≡◌, ◌++◌, drop, nat_eq}
use Rattle.std.specs.List.{flat_map}
use Rattle.indexmap.specs.IndexMap.{get}
use Rattle.f3_selecting.specs.Places.{places_in}
use Rattle.f3_selecting.proofs.places.gathered.Given as goal

abbrev pub invariant-loop-name : goal.invariant-loop-name
invariant-loop-name l =
    l.gathered.items ++ flat_map (λ n. places_in (get nat_eq l.places n)) (drop l.name-index l.names) ≡ flat_map (λ n. places_in (get nat_eq l.places n)) l.names
