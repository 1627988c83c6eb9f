use Rattle.std.proofs.Common.{◌≡◌, ◌+◌, ◌<◌, ◌^◌, ◌++◌}
use Rattle.f3_text.specs.Inner.Reading.{places_from}
use Rattle.f3_text.proofs.reading.add_places.Given as goal

abbrev pub invariant-loop-left : goal.invariant-loop-left
invariant-loop-left l = record {
  fits : l.place.column + l.left < 2 ^ 32;
  same : l.places.items ++ places_from l.left l.place ≡ l.fn.places.items ++ places_from l.fn.count l.fn.first;
}

abbrev pub decreases-loop-left : goal.decreases-loop-left
decreases-loop-left l = l.left
