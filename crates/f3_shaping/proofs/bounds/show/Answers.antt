use Rattle.std.proofs.Common.{◌∙◌, ap, arith, rules, pos}
use Rattle.f3_data.specs.Values.{spans_of}
use Rattle.f3_shaping.proofs.Spans.{changed_at, changed_all, shown_one, shown_ones}
use Rattle.f3_shaping.proofs.bounds.show.Goals as goal

pub loop-span-preserved : goal.loop-span-preserved
loop-span-preserved c = changed_at shown_one c.args.spans.now c.loop-span.spans c.loop-span.span-index (record { lower = pos 0; extent = 0 }) _
    c.loop-span.invariant (omega arith) (search rules)

pub returns : goal.returns
returns c = ap spans_of (c.loop-span.invariant ∙ changed_all shown_one c.args.spans.now c.loop-span.span-index (omega arith)) ∙ shown_ones c.args.spans.now
