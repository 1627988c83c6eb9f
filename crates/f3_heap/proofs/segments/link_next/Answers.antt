-- One word is put.
use Rattle.f3_raw.specs.Region.{region_words}
use Rattle.f3_heap_laws.proofs.Puts.{put-next}
use Rattle.f3_heap.proofs.segments.link_next.Goals as goal

pub returns-else-prev-none-clause-words : goal.returns-else-prev-none-clause-words
returns-else-prev-none-clause-words c = put-next (region_words c.args.region.now) _ c.args.none c.args.prev c.args.next c.put.ensures.words c.if-prev-none.false (c.requires.within c.if-prev-none.false) c.requires.small
