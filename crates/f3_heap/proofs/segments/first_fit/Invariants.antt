-- Every free block before this one was too small.
use Rattle.std.proofs.Common.{◌-◌}
use Rattle.f3_raw.specs.Region.{region_words}
use Rattle.f3_heap_laws.specs.Segments.{Searches, segments}
use Rattle.f3_heap.proofs.segments.first_fit.Given as goal

abbrev pub invariant-loop-at : goal.invariant-loop-at
invariant-loop-at l = Searches l.none l.size (segments (region_words l.region) l.end) l.at

abbrev pub decreases-loop-at : goal.decreases-loop-at
decreases-loop-at l = l.none - l.at
