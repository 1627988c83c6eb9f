-- Zeros, and the length at both ends.
use Rattle.f3_raw.specs.Region.{region_words}
use Rattle.f3_heap_laws.proofs.Puts.{put-used}
use Rattle.f3_heap.proofs.segments.write_used.Goals as goal

pub returns-clause-words : goal.returns-clause-words
returns-clause-words c = put-used (region_words c.args.region.now) _ _ _ c.args.at c.args.words c.args.size c.requires.sized c.requires.reached c.requires.small c.clear.ensures.words c.put.ensures.words c.put-2.ensures.words
