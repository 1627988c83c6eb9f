-- The hint of the width moves on, and the search goes on from it.
use Rattle.std.proofs.Common.{◌≡◌, ℕ, length, subst, rules}
use Rattle.f3_heap_laws.specs.Hints.{HintFrom, classes}
use Rattle.f3_heap_laws.proofs.HintLaws.{hint-wider}
use Rattle.f3_heap_laws.proofs.HintHeaps.{found-hint, set-hints}
use Rattle.f3_heap.specs.Arena.{segments_in}
use Rattle.f3_heap.proofs.heap_blocks.search.Goals as goal

pub first_fit-requires-clause-begins : goal.first_fit-requires-clause-begins
first_fit-requires-clause-begins c = hint-wider c.args.book.now.size _ c.args.size c.first_fit-from.result 0 (segments_in c.args.region.now c.args.book.now) c.requires.wide
    (subst (λ (n : ℕ). HintFrom c.args.book.now.size n c.first_fit-from.result 0 (segments_in c.args.region.now c.args.book.now)) c.width_of.ensures
    (found-hint c.args.book.now.size _ c.first_fit-from.result (segments_in c.args.region.now c.args.book.now) c.first_fit-from.ensures.fits c.first_fit-from.ensures.lacking))

pub returns-clause-arena : goal.returns-clause-arena
returns-clause-arena c =
    let len : length c.args.book.now.hints ≡ classes = search rules in
    record {
      heap = c.requires.arena.heap;
      hints = set-hints c.args.book.now.size c.first_fit-from.result c.args.class (segments_in c.args.region.now c.args.book.now) c.args.book.now.hints len c.requires.class c.requires.arena.hints
          (subst (λ (n : ℕ). HintFrom c.args.book.now.size n c.first_fit-from.result 0 (segments_in c.args.region.now c.args.book.now)) c.width_of.ensures
          (found-hint c.args.book.now.size _ c.first_fit-from.result (segments_in c.args.region.now c.args.book.now) c.first_fit-from.ensures.fits c.first_fit-from.ensures.lacking));
      room = c.requires.arena.room;
    }
