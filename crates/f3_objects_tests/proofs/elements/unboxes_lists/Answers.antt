use Rattle.std.proofs.Common.{ℤ, List, take, drop, ap, arith, length}
use Rattle.f3_objects.specs.Tree.{blank}
use Rattle.f3_objects.specs.Holds.{Holds}
use Rattle.f3_objects.specs.Boxes.{Boxed}
use Rattle.f3_objects_tests.proofs.TwoLists.{pair, two, two_ready, blank_holds, lists_kept}
use Rattle.f3_objects_tests.proofs.elements.unboxes_lists.Goals as goal

pub unbox_tree-requires : goal.unbox_tree-requires
unbox_tree-requires g c =
    let l = c.two_lists-numbers.result.1 in
    let d = c.block_with-to.result in
    let o = g.B.Blocks.blocks c.two_lists-numbers.new.heap in
    let m = g.B.Blocks.blocks c.block_with-to.new.heap in
    let w = c.block_with-to.ensures.words in
    let target : Holds m d 1 pair (blank pair) = blank_holds m d 1 pair c.block_with-to.ensures.live (let n = ap length w in omega arith) (ap (λ (xs : List ℤ). take 6 (drop 1 xs)) w) in
    let kept = lists_kept o m c.two_lists-numbers.result.0 l c.two_lists-numbers.ensures c.block_with-to.ensures.kept in
    let boxed : Boxed m l d 1 pair (two c.two_lists-numbers.result.0) (blank pair) = record { ready = two_ready o m c.two_lists-numbers.result.0 l d 1 c.two_lists-numbers.ensures c.block_with-to.ensures.fresh c.block_with-to.ensures.kept target; exact = kept.written } in
    (pair, two c.two_lists-numbers.result.0, blank pair, boxed)

pub has_words-requires : goal.has_words-requires
has_words-requires g c =
    let l = c.two_lists-numbers.result.1 in
    let d = c.block_with-to.result in
    let o = g.B.Blocks.blocks c.two_lists-numbers.new.heap in
    let m = g.B.Blocks.blocks c.block_with-to.new.heap in
    let w = c.block_with-to.ensures.words in
    let target : Holds m d 1 pair (blank pair) = blank_holds m d 1 pair c.block_with-to.ensures.live (let n = ap length w in omega arith) (ap (λ (xs : List ℤ). take 6 (drop 1 xs)) w) in
    let kept = lists_kept o m c.two_lists-numbers.result.0 l c.two_lists-numbers.ensures c.block_with-to.ensures.kept in
    let boxed : Boxed m l d 1 pair (two c.two_lists-numbers.result.0) (blank pair) = record { ready = two_ready o m c.two_lists-numbers.result.0 l d 1 c.two_lists-numbers.ensures c.block_with-to.ensures.fresh c.block_with-to.ensures.kept target; exact = kept.written } in
    (c.in-Ok.ensures.unboxed pair (two c.two_lists-numbers.result.0) (blank pair) boxed).target.stands.live

pub has_words-requires-then-has_words : goal.has_words-requires-then-has_words
has_words-requires-then-has_words g c =
    let l = c.two_lists-numbers.result.1 in
    let d = c.block_with-to.result in
    let o = g.B.Blocks.blocks c.two_lists-numbers.new.heap in
    let m = g.B.Blocks.blocks c.block_with-to.new.heap in
    let w = c.block_with-to.ensures.words in
    let target : Holds m d 1 pair (blank pair) = blank_holds m d 1 pair c.block_with-to.ensures.live (let n = ap length w in omega arith) (ap (λ (xs : List ℤ). take 6 (drop 1 xs)) w) in
    let kept = lists_kept o m c.two_lists-numbers.result.0 l c.two_lists-numbers.ensures c.block_with-to.ensures.kept in
    let boxed : Boxed m l d 1 pair (two c.two_lists-numbers.result.0) (blank pair) = record { ready = two_ready o m c.two_lists-numbers.result.0 l d 1 c.two_lists-numbers.ensures c.block_with-to.ensures.fresh c.block_with-to.ensures.kept target; exact = kept.written } in
    (c.in-Ok.ensures.unboxed pair (two c.two_lists-numbers.result.0) (blank pair) boxed).target.stands.held.0
