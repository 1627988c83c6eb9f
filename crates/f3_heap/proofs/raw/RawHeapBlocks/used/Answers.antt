-- A live block in the region.
use Rattle.std.proofs.Common.{◌∙◌, ap, sym}
use Rattle.f3_raw.specs.Region.{region_words}
use Rattle.f3_heap_laws.specs.Account.{used_by}
use Rattle.f3_live_blocks.specs.Blocks.{Heap}
use Rattle.f3_heap_laws.specs.Segments.{segments}
use Rattle.f3_heap_laws.proofs.LiveSegs.{used-segments}
use Rattle.f3_heap.specs.declared.arena.Book.{Book}
use Rattle.f3_heap.proofs.raw.RawHeapBlocks.used.Goals as goal

pub returns : goal.returns
returns c = ap (λ (b : Book). b.used) c.deref.ensures ∙ c.self.invariant.heap.account ∙ sym (used-segments (segments (region_words c.self.inside.arena.region) c.self.inside.arena.book.value.end)) ∙ ap (λ (h : Heap). used_by h.blocks) c.self.view_is
