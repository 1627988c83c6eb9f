use Rattle.std.proofs.Common.{◌≡◌, List, [], drop, map}
use Rattle.f3_type_rules.specs.Cases.{Span}
use Rattle.f3_typed_parts.specs.Noted.{noted}
use Rattle.f3_cases.specs.Inner.Ranges.{end_of}
use Rattle.f3_cases.specs.Inner.Seen.{Sees}
use Rattle.f3_cases.specs.Inner.Spans.{held_view, overlaps}
use Rattle.f3_cases.proofs.overlaps.overlaps.Given as goal

abbrev pub invariant-loop-held : goal.invariant-loop-held
invariant-loop-held l =
    (spans : List Span) × Sees spans (end_of l.seen.ranges) l.seen.truth l.seen.falsehood
    × (noted l.first (overlaps spans (map held_view (drop l.held-index l.all))) ≡ noted l.fn.first (overlaps [] (map held_view l.all)))
