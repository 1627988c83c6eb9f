use Rattle.std.proofs.Common.{◌≡◌, ◌≤◌, ◌^◌, length, drop, MatchOption}
use Rattle.f3_meaning_whole.specs.Value.{count}
use Rattle.f3_requests.specs.Inner.Counted.{extents}
use Rattle.f3_requests.proofs.extents.count.Given as goal

abbrev pub invariant-loop-before : goal.invariant-loop-before
invariant-loop-before l = record {
  in_range : l.before ≤ length l.cells;
  counted : MatchOption l.n (2 ^ 64 ≤ count (extents (drop l.before l.cells))) (λ x. x ≡ count (extents (drop l.before l.cells)));
}

abbrev pub decreases-loop-before : goal.decreases-loop-before
decreases-loop-before l = l.before
