-- The walk along the list has come to `next`, and that back from the block to `here`.
use Rattle.std.proofs.Common.{◌-◌, ◌≡◌}
use Rattle.f3_raw.specs.Region.{region_words}
use Rattle.f3_heap_laws.specs.Segments.{Walks, UsedAt, segments, last_free}
use Rattle.f3_heap.proofs.segments.free_before.Given as goal

abbrev pub invariant-loop-next : goal.invariant-loop-next
invariant-loop-next l =
    Walks l.none l.at (segments (region_words l.region) l.end) (segments (region_words l.region) l.at) l.prev l.next
    × UsedAt (segments (region_words l.region) l.end) l.here × (last_free l.none 0 (segments (region_words l.region) l.here) ≡ last_free l.none 0 (segments (region_words l.region) l.at))

abbrev pub decreases-loop-next : goal.decreases-loop-next
decreases-loop-next l = l.at - l.next
