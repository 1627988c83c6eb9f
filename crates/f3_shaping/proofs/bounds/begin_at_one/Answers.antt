use Rattle.std.proofs.Common.{◌∙◌, ap, refl, arith}
use Rattle.f3_data.specs.Values.{spans_of}
use Rattle.f3_shaping.proofs.Spans.{changed_at, changed_all, first_one, first_ones}
use Rattle.f3_shaping.proofs.bounds.begin_at_one.Goals as goal

pub loop-span-preserved : goal.loop-span-preserved
loop-span-preserved c = changed_at first_one c.args.spans.now c.loop-span.spans c.loop-span.span-index _ _ c.loop-span.invariant (omega arith) refl

pub returns : goal.returns
returns c = ap spans_of (c.loop-span.invariant ∙ changed_all first_one c.args.spans.now c.loop-span.span-index (omega arith)) ∙ first_ones c.args.spans.now
