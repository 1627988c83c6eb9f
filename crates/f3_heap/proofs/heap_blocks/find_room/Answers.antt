-- Where the width has no hint, no free block is as wide.
use Rattle.f3_heap.proofs.Hinted.{none_fits}
use Rattle.f3_heap.proofs.heap_blocks.find_room.Goals as goal

pub returns-then-book-class-clause-lacking : goal.returns-then-book-class-clause-lacking
returns-then-book-class-clause-lacking c = λ _. none_fits c.args.region.now c.args.book.now c.class_of-class.result c.args.size c.requires.arena c.class_of-class.ensures.within c.class_of-class.ensures.wide c.if-book-class.true
