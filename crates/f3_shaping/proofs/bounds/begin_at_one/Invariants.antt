use Rattle.std.proofs.Common.{◌≡◌}
use Rattle.f3_shaping.proofs.Spans.{changed, first_one}
use Rattle.f3_shaping.proofs.bounds.begin_at_one.Given as goal

abbrev pub invariant-loop-span : goal.invariant-loop-span
invariant-loop-span l = l.spans ≡ changed first_one l.span-index l.initial.spans
