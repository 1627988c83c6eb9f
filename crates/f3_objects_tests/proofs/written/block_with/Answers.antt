use Rattle.std.proofs.Common.{rules, ◌≡◌, pos, get_or, to_z, of_z, w64, length}
use Rattle.std.proofs.lemmas.Int.{to_z-of_z}
use Rattle.std.specs.Prelude.{None}
use Rattle.std.specs.FinMap.{get}
use Rattle.f3_live_blocks.specs.Blocks.{with_taken}
use Rattle.f3_objects_tests.proofs.Filling.{if_ok, fills_none, fills_more}
use Rattle.f3_objects_tests.proofs.written.block_with.Goals as goal

pub loop-at-init : goal.loop-at-init
loop-at-init g c =
    let m = g.B.Blocks.blocks c.args.heap.now in
    let n = g.B.Blocks.blocks c.take.new.self in
    fills_none m n c.expect-block.result c.args.words.now
    (if_ok c.take.result c.expect-block.result (λ b. get m b ≡ None) c.expect-block.ensures c.take.ensures.fresh)
    (if_ok c.take.result c.expect-block.result (λ b. n ≡ with_taken m b (length c.args.words.now)) c.expect-block.ensures c.take.ensures.taken)

pub loop-at-preserved : goal.loop-at-preserved
loop-at-preserved g c =
    let m = g.B.Blocks.blocks c.args.heap.now in
    let same : to_z w64 (of_z w64 (get_or c.args.words.now c.loop-at.at (pos 0))) ≡ get_or c.args.words.now c.loop-at.at (pos 0) = to_z-of_z w64 _ (search rules) in
    fills_more m (g.B.Blocks.blocks c.loop-at.heap) (g.B.Blocks.blocks c.write.new.self) c.expect-block.result c.args.words.now c.loop-at.at _
    (if_ok c.take.result c.expect-block.result (λ b. get m b ≡ None) c.expect-block.ensures c.take.ensures.fresh)
    c.loop-at.invariant c.loop-at-test.true same c.write.ensures.written
