use Rattle.std.proofs.Common.{◌≡◌, ◌*◌, ◌%◌, ◌^◌, drop}
use Rattle.f3_meaning_whole.specs.Value.{count}
use Rattle.f3_data.specs.Values.{spans_of}
use Rattle.f3_requests.proofs.extents.element_count.Given as goal

abbrev pub invariant-loop-span : goal.invariant-loop-span
invariant-loop-span l = (l.n * count (spans_of (drop l.span-index l.spans))) % 2 ^ 64 ≡ count (spans_of l.spans) % 2 ^ 64
