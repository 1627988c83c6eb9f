-- The two ends are the whole.
use Rattle.std.proofs.Common.{◌+◌, ◌-◌, ◌∙◌, pos, replicate}
use Rattle.f3_raw.specs.Region.{region_words}
use Rattle.f3_raw.specs.Words.{written}
use Rattle.f3_heap.proofs.Ends.{both_ends}
use Rattle.f3_heap.proofs.segments.clear_ends.Goals as goal

pub returns-clause-words : goal.returns-clause-words
returns-clause-words c =
    c.clear_below-2.ensures.words
    ∙ (λ i. written (c.clear_below.ensures.words i) ((c.args.at + c.args.size) - c.args.part) (replicate c.args.part (pos 0)))
    ∙ both_ends (region_words c.args.region.now) c.args.at c.args.size c.args.part c.requires.inside c.requires.meet.0 c.requires.meet.1
