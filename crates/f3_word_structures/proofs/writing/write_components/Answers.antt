use Rattle.std.proofs.Common.{◌≡◌, ◌∙◌, ◌+◌, ap, arith, drop, length, refl, slice_index_or, subst, sym}
use Rattle.std.proofs.lemmas.List.{drop_all, drop_more}
use Rattle.f3_room_levels.specs.Writing.{IsBlank, with_words_from}
use Rattle.f3_room_places.specs.Places.{shapes}
use Rattle.f3_word_structures.specs.Members.{given_words}
use Rattle.f3_word_structures.proofs.Filling.{writing-all, writing-apart, writing-can, writing-fills, writing-given, writing-here, writing-initial, writing-none, writing-within}
use Rattle.f3_word_structures.proofs.writing.write_components.Goals as goal
use Rattle.f3_word_structures.proofs.writing.write_components.Goals.{in-None, in-Some}

pub loop-number-init : goal.loop-number-init
loop-number-init g c = record {
  writing = writing-none (shapes c.args.types) (g.B.Blocks.blocks c.args.heap.now) c.args.cells.now c.args.block c.args.components.now c.requires.fit c.requires.whole c.requires.blank;
  kept = refl;
}

pub room_of-room-requires-clause-small : goal.room_of-room-requires-clause-small
room_of-room-requires-clause-small g c =
    let cs = c.args.components.now in
    let n = c.loop-number.number in
    let x = slice_index_or cs n c.index-components-number.result in
    let w = writing-within (shapes c.args.types) (g.B.Blocks.blocks c.args.heap.now) (g.B.Blocks.blocks c.loop-number.heap) c.args.cells.now c.args.block c.loop-number.at n (drop n cs) (drop (n + 1) cs) cs x
    (drop_more cs n c.index-components-number.result c.loop-number-test.true) c.loop-number.invariant.writing in
    omega (arith, w, c.length.ensures, c.length.type_inv)

pub write_given-requires-clause-blank : goal.write_given-requires-clause-blank
write_given-requires-clause-blank g c =
    let cs = c.args.components.now in
    let n = c.loop-number.number in
    let x = slice_index_or cs n c.index-components-number.result in
    subst (IsBlank (g.B.Blocks.blocks c.loop-number.heap) c.args.block c.loop-number.at) (sym c.room_of-room.ensures)
    (writing-here (shapes c.args.types) (g.B.Blocks.blocks c.args.heap.now) (g.B.Blocks.blocks c.loop-number.heap) c.args.cells.now c.args.block c.loop-number.at n (drop n cs) (drop (n + 1) cs) cs x
    (drop_more cs n c.index-components-number.result c.loop-number-test.true) c.loop-number.invariant.writing)

pub write_given-requires-clause-apart : goal.write_given-requires-clause-apart
write_given-requires-clause-apart g c =
    let cs = c.args.components.now in
    let n = c.loop-number.number in
    let x = slice_index_or cs n c.index-components-number.result in
    writing-apart (shapes c.args.types) (g.B.Blocks.blocks c.args.heap.now) (g.B.Blocks.blocks c.loop-number.heap) c.args.cells.now c.args.block c.loop-number.at n (drop n cs) (drop (n + 1) cs) cs x
    (drop_more cs n c.index-components-number.result c.loop-number-test.true) c.loop-number.invariant.writing c.in-Some.datum.now c.in-Some.ensures c.requires.apart

pub write_given-requires-clause-whole : goal.write_given-requires-clause-whole
write_given-requires-clause-whole g c =
    let cs = c.args.components.now in
    let n = c.loop-number.number in
    let x = slice_index_or cs n c.index-components-number.result in
    subst (λ k. length (given_words (g.B.Blocks.blocks c.loop-number.heap) k c.in-Some.datum.now) ≡ k) (sym c.room_of-room.ensures)
    (writing-fills (shapes c.args.types) (g.B.Blocks.blocks c.args.heap.now) (g.B.Blocks.blocks c.loop-number.heap) c.args.cells.now c.args.block c.loop-number.at n (drop n cs) (drop (n + 1) cs) cs x
    (drop_more cs n c.index-components-number.result c.loop-number-test.true) c.loop-number.invariant.writing c.in-Some.datum.now c.in-Some.ensures c.requires.apart)

pub write_declared-requires-clause-fit : goal.write_declared-requires-clause-fit
write_declared-requires-clause-fit g c =
    let cs = c.args.components.now in
    let n = c.loop-number.number in
    let x = slice_index_or cs n c.index-components-number.result in
    (writing-can (shapes c.args.types) (g.B.Blocks.blocks c.args.heap.now) (g.B.Blocks.blocks c.loop-number.heap) c.args.cells.now c.args.block c.loop-number.at n (drop n cs) (drop (n + 1) cs) cs x
    (drop_more cs n c.index-components-number.result c.loop-number-test.true) c.loop-number.invariant.writing).0

pub write_declared-requires-clause-type_fit : goal.write_declared-requires-clause-type_fit
write_declared-requires-clause-type_fit g c =
    let cs = c.args.components.now in
    let n = c.loop-number.number in
    let x = slice_index_or cs n c.index-components-number.result in
    (writing-can (shapes c.args.types) (g.B.Blocks.blocks c.args.heap.now) (g.B.Blocks.blocks c.loop-number.heap) c.args.cells.now c.args.block c.loop-number.at n (drop n cs) (drop (n + 1) cs) cs x
    (drop_more cs n c.index-components-number.result c.loop-number-test.true) c.loop-number.invariant.writing).1

pub write_declared-requires-clause-blank : goal.write_declared-requires-clause-blank
write_declared-requires-clause-blank g c =
    let cs = c.args.components.now in
    let n = c.loop-number.number in
    let x = slice_index_or cs n c.index-components-number.result in
    writing-here (shapes c.args.types) (g.B.Blocks.blocks c.args.heap.now) (g.B.Blocks.blocks c.loop-number.heap) c.args.cells.now c.args.block c.loop-number.at n (drop n cs) (drop (n + 1) cs) cs x
    (drop_more cs n c.index-components-number.result c.loop-number-test.true) c.loop-number.invariant.writing

pub overflow_add-at : goal.overflow_add-at
overflow_add-at g c =
    let cs = c.args.components.now in
    let n = c.loop-number.number in
    let x = slice_index_or cs n c.index-components-number.result in
    let w = writing-within (shapes c.args.types) (g.B.Blocks.blocks c.args.heap.now) (g.B.Blocks.blocks c.loop-number.heap) c.args.cells.now c.args.block c.loop-number.at n (drop n cs) (drop (n + 1) cs) cs x
    (drop_more cs n c.index-components-number.result c.loop-number-test.true) c.loop-number.invariant.writing in
    omega (arith, w, c.length.ensures, c.length.type_inv, c.room_of-room.ensures)

pub loop-number-preserved : goal.loop-number-preserved
loop-number-preserved g c =
    let cs = c.args.components.now in
    let n = c.loop-number.number in
    let x = slice_index_or cs n c.index-components-number.result in
    let room = c.room_of-room.result in
    let is = c.room_of-room.ensures in
    elim c.match-given.branch [
      | in-Some w ↦ record {
        writing = writing-given (shapes c.args.types) (g.B.Blocks.blocks c.args.heap.now) (g.B.Blocks.blocks c.loop-number.heap) c.args.cells.now c.args.block c.loop-number.at n (drop n cs) (drop (n + 1) cs) cs x
            (drop_more cs n c.index-components-number.result c.loop-number-test.true) c.loop-number.invariant.writing w.in-Some.datum.now w.in-Some.ensures c.requires.apart (g.B.Blocks.blocks c.match-given.heap) room is
            (ap g.B.Blocks.blocks w.heap-is ∙ w.write_given.ensures.written
            ∙ ap (λ k. with_words_from (g.B.Blocks.blocks c.loop-number.heap) c.args.block c.loop-number.at (given_words (g.B.Blocks.blocks c.loop-number.heap) k w.in-Some.datum.now)) is);
        kept = ap g.B.Blocks.kept w.heap-is ∙ w.write_given.ensures.kept ∙ c.loop-number.invariant.kept;
      }
      | in-None w ↦ record {
        writing = writing-initial (shapes c.args.types) (g.B.Blocks.blocks c.args.heap.now) (g.B.Blocks.blocks c.loop-number.heap) c.args.cells.now c.args.block c.loop-number.at n (drop n cs) (drop (n + 1) cs) cs x
            (drop_more cs n c.index-components-number.result c.loop-number-test.true) c.loop-number.invariant.writing w.in-None.ensures (g.B.Blocks.blocks c.match-given.heap) room is
            (ap g.B.Blocks.blocks w.heap-is ∙ w.write_declared.ensures.written);
        kept = ap g.B.Blocks.kept w.heap-is ∙ w.write_declared.ensures.kept ∙ c.loop-number.invariant.kept;
      }
    ]

pub returns-clause-written : goal.returns-clause-written
returns-clause-written g c =
    let cs = c.args.components.now in
    let n = c.loop-number.number in
    let past = c.loop-number-test.false in
    writing-all (shapes c.args.types) (g.B.Blocks.blocks c.args.heap.now) (g.B.Blocks.blocks c.loop-number.heap) c.args.cells.now c.args.block c.loop-number.at n (drop n cs) cs
    (drop_all n cs (omega (arith, past))) c.loop-number.invariant.writing

pub returns-clause-kept : goal.returns-clause-kept
returns-clause-kept g c = c.loop-number.invariant.kept
