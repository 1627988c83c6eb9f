use Rattle.std.proofs.Common.{refl, sym, ap, subst, ◌∙◌, ℤ, to_z, of_z, w64, replicate, arith}
use Rattle.std.proofs.lemmas.Int.{to_z-of_z}
use Rattle.f3_room_levels.specs.Writing.{with_words_from}
use Rattle.f3_room_levels.proofs.Leaving.{LeavesCopies, copies_all, copies_here, copies_next, copies_none}
use Rattle.f3_room_levels.proofs.writing.write_copies.Goals as goal

pub loop-each-init : goal.loop-each-init
loop-each-init g c =
    let m = g.B.Blocks.blocks c.args.heap.now in
    let P : ℤ → Type 0 = λ w. LeavesCopies m m c.args.block c.args.at 0 c.args.count w in
    record { copies = subst P (sym (to_z-of_z w64 c.args.word c.ranges.word)) (copies_all m c.args.block c.args.at c.args.count c.args.word c.requires.blank); kept = refl }

pub write-requires-clause-live : goal.write-requires-clause-live
write-requires-clause-live g c =
    (copies_here (g.B.Blocks.blocks c.args.heap.now) (g.B.Blocks.blocks c.loop-each.heap) c.args.block c.args.at c.loop-each.each c.args.count (to_z w64 (of_z w64 c.args.word))
    c.loop-each.invariant.copies c.loop-each-test.true).live

pub write-requires-clause-within : goal.write-requires-clause-within
write-requires-clause-within g c =
    let w = (copies_here (g.B.Blocks.blocks c.args.heap.now) (g.B.Blocks.blocks c.loop-each.heap) c.args.block c.args.at c.loop-each.each c.args.count (to_z w64 (of_z w64 c.args.word))
    c.loop-each.invariant.copies c.loop-each-test.true).within in
    omega arith

pub loop-each-preserved : goal.loop-each-preserved
loop-each-preserved g c = record {
  copies = copies_next (g.B.Blocks.blocks c.args.heap.now) (g.B.Blocks.blocks c.loop-each.heap) c.args.block c.args.at c.loop-each.each c.args.count (to_z w64 (of_z w64 c.args.word))
      c.loop-each.invariant.copies c.loop-each-test.true (g.B.Blocks.blocks c.write.new.self) c.write.ensures.written;
  kept = c.write.ensures.kept ∙ c.loop-each.invariant.kept;
}

pub returns-clause-written : goal.returns-clause-written
returns-clause-written g c =
    copies_none (g.B.Blocks.blocks c.args.heap.now) (g.B.Blocks.blocks c.loop-each.heap) c.args.block c.args.at c.loop-each.each c.args.count (to_z w64 (of_z w64 c.args.word))
    c.loop-each.invariant.copies c.loop-each-test.false
    ∙ ap (λ (w : ℤ). with_words_from (g.B.Blocks.blocks c.args.heap.now) c.args.block c.args.at (replicate c.args.count w)) (to_z-of_z w64 c.args.word c.ranges.word)

pub returns-clause-kept : goal.returns-clause-kept
returns-clause-kept g c = c.loop-each.invariant.kept
