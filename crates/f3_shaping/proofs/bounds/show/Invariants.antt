use Rattle.std.proofs.Common.{◌≡◌}
use Rattle.f3_shaping.proofs.Spans.{changed, shown_one}
use Rattle.f3_shaping.proofs.bounds.show.Given as goal

abbrev pub invariant-loop-span : goal.invariant-loop-span
invariant-loop-span l = l.spans ≡ changed shown_one l.span-index l.initial.spans
