-- Zeros, and the length at both ends.
use Rattle.std.proofs.Common.{arith}
use Rattle.f3_raw.specs.Region.{region_words}
use Rattle.f3_heap_laws.proofs.Puts.{put-used}
use Rattle.f3_heap.proofs.segments.write_small.Goals as goal

pub returns-clause-words : goal.returns-clause-words
returns-clause-words c = put-used (region_words c.args.region.now) _ _ _ c.args.at c.args.words c.args.size c.requires.sized (omega (arith, c.requires.inside)) (omega (arith, c.requires.small)) c.clear_small.ensures.words c.put.ensures.words c.put-2.ensures.words
