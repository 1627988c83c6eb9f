-- The size at both ends, and the links.
use Rattle.std.proofs.Common.{arith}
use Rattle.std.proofs.lemmas.Int.{ints}
use Rattle.f3_raw.specs.Region.{region_words}
use Rattle.f3_heap_laws.proofs.Puts.{put-free}
use Rattle.f3_heap.proofs.segments.write_free.Goals as goal

pub returns-clause-words : goal.returns-clause-words
returns-clause-words c =
    put-free (region_words c.args.region.now) _ _ _ _ c.args.at c.args.size c.args.next c.args.prev _ c.requires.within c.requires.sized.0 c.requires.small.0 c.requires.small.1
    c.put.ensures.words c.put-2.ensures.words c.put-3.ensures.words c.put-4.ensures.words (omega (arith, ints))
