use Rattle.std.proofs.Common.{◌∙◌, ◌/◌, ◌<◌, ap, arith, length, refl, subst, sym}
use Rattle.f3_word_arrays.specs.Items.{datum_words}
use Rattle.f3_word_structures.proofs.Filling.{filling-all, filling-apart, filling-live, filling-long, filling-more, filling-none, filling-within, nothing-given}
use Rattle.f3_word_structures.proofs.writing.write_given.Goals as goal

pub returns-then-words-eq0-clause-written : goal.returns-then-words-eq0-clause-written
returns-then-words-eq0-clause-written g c =
    nothing-given (g.B.Blocks.blocks c.args.heap.now) c.args.block c.args.at c.args.room c.args.datum.now (sym c.width-words.ensures ∙ c.if-words-eq0.true)

pub loop-each-init : goal.loop-each-init
loop-each-init g c = record {
  filling = filling-none (g.B.Blocks.blocks c.args.heap.now) c.args.block c.args.at c.args.room c.args.datum.now c.requires.blank c.requires.whole;
  kept = refl;
}

pub write_item-requires-clause-live : goal.write_item-requires-clause-live
write_item-requires-clause-live g c =
    let m = g.B.Blocks.blocks c.args.heap.now in
    let many = c.args.room / length (datum_words m c.args.datum.now) in
    filling-live m (g.B.Blocks.blocks c.loop-each.heap) c.args.block c.args.at c.loop-each.place c.loop-each._each many c.args.datum.now c.loop-each.invariant.filling c.requires.apart
    (subst (λ k. c.loop-each._each < c.args.room / k) c.width-words.ensures c.loop-each-test.true)

pub write_item-requires-clause-apart : goal.write_item-requires-clause-apart
write_item-requires-clause-apart g c =
    let m = g.B.Blocks.blocks c.args.heap.now in
    let many = c.args.room / length (datum_words m c.args.datum.now) in
    filling-apart m (g.B.Blocks.blocks c.loop-each.heap) c.args.block c.args.at c.loop-each.place c.loop-each._each many c.args.datum.now c.loop-each.invariant.filling c.requires.apart
    (subst (λ k. c.loop-each._each < c.args.room / k) c.width-words.ensures c.loop-each-test.true)

pub write_item-requires-clause-within : goal.write_item-requires-clause-within
write_item-requires-clause-within g c =
    let m = g.B.Blocks.blocks c.args.heap.now in
    let many = c.args.room / length (datum_words m c.args.datum.now) in
    filling-within m (g.B.Blocks.blocks c.loop-each.heap) c.args.block c.args.at c.loop-each.place c.loop-each._each many c.args.datum.now c.loop-each.invariant.filling c.requires.apart
    (subst (λ k. c.loop-each._each < c.args.room / k) c.width-words.ensures c.loop-each-test.true)

pub overflow_add-place : goal.overflow_add-place
overflow_add-place g c =
    let m = g.B.Blocks.blocks c.args.heap.now in
    let many = c.args.room / length (datum_words m c.args.datum.now) in
    let w = filling-long m (g.B.Blocks.blocks c.loop-each.heap) c.args.block c.args.at c.loop-each.place c.loop-each._each many c.args.datum.now c.loop-each.invariant.filling c.requires.apart
    (subst (λ k. c.loop-each._each < c.args.room / k) c.width-words.ensures c.loop-each-test.true) in
    omega (arith, w, c.length.ensures, c.length.type_inv, c.width-words.ensures)

pub loop-each-preserved : goal.loop-each-preserved
loop-each-preserved g c =
    let m = g.B.Blocks.blocks c.args.heap.now in
    let many = c.args.room / length (datum_words m c.args.datum.now) in
    record {
      filling = filling-more m (g.B.Blocks.blocks c.loop-each.heap) c.args.block c.args.at c.loop-each.place c.loop-each._each many c.args.datum.now c.loop-each.invariant.filling c.requires.apart
          (subst (λ k. c.loop-each._each < c.args.room / k) c.width-words.ensures c.loop-each-test.true) (g.B.Blocks.blocks c.write_item.new.heap) c.width-words.result c.width-words.ensures
          c.write_item.ensures.written;
      kept = c.write_item.ensures.kept ∙ c.loop-each.invariant.kept;
    }

pub returns-clause-written : goal.returns-clause-written
returns-clause-written g c =
    let m = g.B.Blocks.blocks c.args.heap.now in
    let past = c.loop-each-test.false in
    let many = c.args.room / length (datum_words m c.args.datum.now) in
    let same = ap (λ k. c.args.room / k) c.width-words.ensures in
    filling-all m (g.B.Blocks.blocks c.loop-each.heap) c.args.block c.args.at c.loop-each.place c.loop-each._each many c.args.room c.args.datum.now c.loop-each.invariant.filling refl
    (omega (arith, past, same))

pub returns-clause-kept : goal.returns-clause-kept
returns-clause-kept g c = c.loop-each.invariant.kept
