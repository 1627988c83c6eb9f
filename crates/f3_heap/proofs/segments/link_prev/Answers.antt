-- One word is put.
use Rattle.f3_raw.specs.Region.{region_words}
use Rattle.f3_heap_laws.proofs.Puts.{put-prev}
use Rattle.f3_heap.proofs.segments.link_prev.Goals as goal

pub returns-then-next-none-clause-words : goal.returns-then-next-none-clause-words
returns-then-next-none-clause-words c = put-prev (region_words c.args.region.now) _ c.args.none c.args.next c.args.prev c.put.ensures.words c.if-next-none.true (c.requires.within c.if-next-none.true) c.requires.small
