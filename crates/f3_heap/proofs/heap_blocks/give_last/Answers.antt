-- The last block is given back alone.
use Rattle.std.proofs.Common.{◌-◌, ◌∙◌, length, ap, refl, arith}
use Rattle.f3_raw.specs.Region.{region_words, region_size}
use Rattle.std.proofs.Common.{w64}
use Rattle.std.specs.Int.{cast_unsigned}
use Rattle.f3_heap_laws.specs.Account.{r}
use Rattle.f3_heap_laws.specs.Segments.{segments}
use Rattle.f3_heap_laws.proofs.HintHeaps.{last-hints}
use Rattle.f3_heap_laws.proofs.Segs.{r-above}
use Rattle.f3_heap_laws.proofs.EndBlock.{used-above, last-heap, last-live}
use Rattle.f3_heap_laws.proofs.BlockReads.{used-within, used-head}
use Rattle.f3_heap_laws.proofs.BlockLaws.{heap-at, heap-words}
use Rattle.f3_heap.proofs.Sizes.{given_is}
use Rattle.f3_heap.proofs.heap_blocks.give_last.Goals as goal

pub link-requires : goal.link-requires
link-requires c = let u = c.requires.block in omega (arith, heap-words (region_words c.args.region.now) (region_size c.args.region.now) c.args.book.now.size c.args.book.now.first c.args.book.now.end c.args.book.now.used c.requires.arena.heap, r-above (length u.content), used-within c.args.book.now.size (segments (region_words c.args.region.now) c.args.book.now.end) (region_words c.args.region.now) c.args.book.now.first c.args.book.now.end c.requires.arena.heap.lays u.front u.content u.pins u.back c.args.at u.split u.place)

pub size_of_block-given-requires : goal.size_of_block-given-requires
size_of_block-given-requires c =
    let u = c.requires.block in
    let w = used-within c.args.book.now.size (segments (region_words c.args.region.now) c.args.book.now.end) (region_words c.args.region.now) c.args.book.now.first c.args.book.now.end c.requires.arena.heap.lays u.front u.content u.pins u.back c.args.at u.split u.place in
    let e = c.link.ensures ∙ ap (cast_unsigned w64) (used-head c.args.book.now.size (segments (region_words c.args.region.now) c.args.book.now.end) (region_words c.args.region.now) c.args.book.now.first c.args.book.now.end c.requires.arena.heap.lays u.front u.content u.pins u.back c.args.at u.split u.place) in
    omega (arith, w, ap r e, c.requires.arena.heap.within, c.requires.arena.heap.small)

pub overflow_add-at : goal.overflow_add-at
overflow_add-at c = record { fits = omega (arith, given_is (region_words c.args.region.now) c.args.book.now.size c.args.book.now.first c.args.book.now.end c.args.at c.requires.arena.heap.lays c.requires.block c.size_of_block-given.result c.link.result c.size_of_block-given.ensures c.link.ensures, used-within c.args.book.now.size (segments (region_words c.args.region.now) c.args.book.now.end) (region_words c.args.region.now) c.args.book.now.first c.args.book.now.end c.requires.arena.heap.lays c.requires.block.front c.requires.block.content c.requires.block.pins c.requires.block.back c.args.at c.requires.block.split c.requires.block.place, c.requires.arena.heap.within, c.requires.arena.heap.small) }

pub free_left-requires : goal.free_left-requires
free_left-requires c = omega (arith, used-within c.args.book.now.size (segments (region_words c.args.region.now) c.args.book.now.end) (region_words c.args.region.now) c.args.book.now.first c.args.book.now.end c.requires.arena.heap.lays c.requires.block.front c.requires.block.content c.requires.block.pins c.requires.block.back c.args.at c.requires.block.split c.requires.block.place, heap-words (region_words c.args.region.now) (region_size c.args.region.now) c.args.book.now.size c.args.book.now.first c.args.book.now.end c.args.book.now.used c.requires.arena.heap)

pub overflow_sub-book : goal.overflow_sub-book
overflow_sub-book c = omega (arith, given_is (region_words c.args.region.now) c.args.book.now.size c.args.book.now.first c.args.book.now.end c.args.at c.requires.arena.heap.lays c.requires.block c.size_of_block-given.result c.link.result c.size_of_block-given.ensures c.link.ensures, used-above (region_words c.args.region.now) (region_size c.args.region.now) c.args.book.now.size c.args.book.now.first c.args.book.now.end c.args.book.now.used c.args.at c.requires.arena.heap c.requires.block)

pub returns-then-free_left-eq0-clause-arena : goal.returns-then-free_left-eq0-clause-arena
returns-then-free_left-eq0-clause-arena c =
    record {
      heap = heap-at _ _ _ _ c.args.book.now.size _ _ _ _ _ _ (last-heap (region_words c.args.region.now) (region_size c.args.region.now) c.args.book.now.size c.args.book.now.first c.args.book.now.end c.args.book.now.used c.args.at c.requires.arena.heap c.requires.block (omega (arith, given_is (region_words c.args.region.now) c.args.book.now.size c.args.book.now.first c.args.book.now.end c.args.at c.requires.arena.heap.lays c.requires.block c.size_of_block-given.result c.link.result c.size_of_block-given.ensures c.link.ensures, c.if-at-given.true)) c.free_left.result c.free_left.ensures.start c.free_left.ensures.tag c.if-free_left-eq0.true)
          refl refl refl refl (ap (λ n. c.args.book.now.used - n) (given_is (region_words c.args.region.now) c.args.book.now.size c.args.book.now.first c.args.book.now.end c.args.at c.requires.arena.heap.lays c.requires.block c.size_of_block-given.result c.link.result c.size_of_block-given.ensures c.link.ensures));
      hints = last-hints (region_words c.args.region.now) (region_size c.args.region.now) c.args.book.now.size c.args.book.now.first c.args.book.now.end c.args.book.now.used c.requires.arena.heap c.args.book.now.hints c.requires.arena.hints c.args.at c.requires.block (omega (arith, given_is (region_words c.args.region.now) c.args.book.now.size c.args.book.now.first c.args.book.now.end c.args.at c.requires.arena.heap.lays c.requires.block c.size_of_block-given.result c.link.result c.size_of_block-given.ensures c.link.ensures, c.if-at-given.true));
      room = c.requires.arena.room;
    }

pub returns-then-free_left-eq0-clause-given : goal.returns-then-free_left-eq0-clause-given
returns-then-free_left-eq0-clause-given c = λ e. last-live (region_words c.args.region.now) (region_size c.args.region.now) c.args.book.now.size c.args.book.now.first c.args.book.now.end c.args.book.now.used c.args.at c.requires.arena.heap c.requires.block (omega (arith, given_is (region_words c.args.region.now) c.args.book.now.size c.args.book.now.first c.args.book.now.end c.args.at c.requires.arena.heap.lays c.requires.block c.size_of_block-given.result c.link.result c.size_of_block-given.ensures c.link.ensures, c.if-at-given.true)) c.free_left.result c.free_left.ensures.start c.free_left.ensures.tag c.if-free_left-eq0.true
