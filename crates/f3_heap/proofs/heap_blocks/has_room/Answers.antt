-- The words behind all blocks, or the search.
use Rattle.std.proofs.Common.{◌≡◌, ◌≤◌, ◌-◌, ◌∙◌, ℕ, true, nat_le, slice_index_or, sym, arith}
use Rattle.std.proofs.lemmas.Bool.Decides.{nat_tests}
use Rattle.f3_raw.specs.Region.{region_words, region_size}
use Rattle.f3_heap_laws.proofs.BlockLaws.{room-large}
use Rattle.f3_heap_laws.proofs.RawWrites.{room-wide, room-search}
use Rattle.f3_heap_laws.proofs.HintLaws.{hint-wider}
use Rattle.f3_heap.specs.Arena.{segments_in}
use Rattle.f3_heap.proofs.heap_blocks.has_room.Goals as goal

yes_le : (m n : ℕ) → m ≤ n → nat_le m n ≡ true
yes_le m n h = grind (arith, nat_tests)

pub returns-then-not-fits : goal.returns-then-not-fits
returns-then-not-fits c =
    sym (room-large (region_words c.args.region.now) (region_size c.args.region.now) c.args.book.now.size c.args.book.now.first c.args.book.now.end c.args.book.now.used c.requires.heap c.args.words c.fits.result c.if-not-fits.true c.fits.ensures)

pub returns-then-size-book : goal.returns-then-size-book
returns-then-size-book c =
    yes_le c.size_of_block-size.result (c.args.book.now.size - c.args.book.now.end) c.if-size-book.true
    ∙ sym (room-wide (region_words c.args.region.now) (region_size c.args.region.now) c.args.book.now.size c.args.book.now.first c.args.book.now.end c.args.book.now.used c.requires.heap c.args.words c.size_of_block-size.result c.size_of_block-size.ensures c.if-size-book.true)

pub returns-else-size-book : goal.returns-else-size-book
returns-else-size-book c =
    room-search (region_words c.args.region.now) (region_size c.args.region.now) c.args.book.now.size c.args.book.now.first c.args.book.now.end c.args.book.now.used c.requires.heap c.args.words c.size_of_block-size.result c.size_of_block-size.ensures c.first_fit.result c.first_fit.ensures.fits c.first_fit.ensures.lacking c.if-size-book.false

pub first_fit-requires-clause-begins : goal.first_fit-requires-clause-begins
first_fit-requires-clause-begins c =
    hint-wider c.args.book.now.size _ c.size_of_block-size.result (slice_index_or c.args.book.now.hints c.class_of.result 0) 0 (segments_in c.args.region.now c.args.book.now) c.class_of.ensures.wide (c.requires.hints c.class_of.result c.class_of.ensures.within)
