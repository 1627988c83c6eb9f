use Rattle.std.proofs.Common.{◌∙◌, refl, ap, ◌+◌, set, arith, rules, w64, FitsSigned}
use Rattle.std.specs.Prelude.{ℤ}
use Rattle.std.proofs.lemmas.Int.{to_z-of_z}
use Rattle.f3_live_blocks.specs.Blocks.{words_of, with_words}
use Rattle.f3_meaning_whole.specs.Shape.{shape_in}
use Rattle.f3_rooms.specs.Forms.{words_for}
use Rattle.f3_room_places.specs.Places.{shapes}
use Rattle.f3_room_levels.specs.Initial.{object_words}
use Rattle.f3_room_levels.proofs.Widths.{object_many}
use Rattle.f3_objects.proofs.Writes.{wrote_none, wrote_live}
use Rattle.f3_word_copies.proofs.Filling.{filled-within, filled-more, filled-all}
use Rattle.f3_word_copies.proofs.spreading.write_initial.Goals as goal

pub loop-number-init : goal.loop-number-init
loop-number-init g c = record { wrote = wrote_none (g.B.Blocks.blocks c.args.heap.now) c.args.block c.args.at c.requires.live; kept = refl }

pub write-requires-clause-live : goal.write-requires-clause-live
write-requires-clause-live g c = wrote_live (g.B.Blocks.blocks c.args.heap.now) (g.B.Blocks.blocks c.loop-number.heap) c.args.block c.args.at _ c.loop-number.invariant.wrote

pub write-requires-clause-within : goal.write-requires-clause-within
write-requires-clause-within g c =
    let s = shape_in (shapes c.args.types) c.args.of in
    filled-within (g.B.Blocks.blocks c.args.heap.now) c.args.block c.args.at (object_words s) (words_for s) (object_many s c.requires.fit) c.requires.within (g.B.Blocks.blocks c.loop-number.heap) c.loop-number.number
    c.loop-number.invariant.wrote (let lt = c.loop-number-test.true in let e = c.words-number-end.ensures in omega arith)

pub loop-number-preserved : goal.loop-number-preserved
loop-number-preserved g c =
    let s = shape_in (shapes c.args.types) c.args.of in
    let now = g.B.Blocks.blocks c.loop-number.heap in
    let fits : FitsSigned w64 c.object_word.result = search rules in
    record {
      wrote = filled-more (g.B.Blocks.blocks c.args.heap.now) c.args.block c.args.at (object_words s) (words_for s) (object_many s c.requires.fit) c.requires.within now c.loop-number.number
          c.loop-number.invariant.wrote (let lt = c.loop-number-test.true in let e = c.words-number-end.ensures in omega arith) (g.B.Blocks.blocks c.write.new.self) c.object_word.result c.object_word.ensures
          (c.write.ensures.written ∙ ap (λ (z : ℤ). with_words now c.args.block (set (words_of now c.args.block) (c.args.at + c.loop-number.number) z)) (to_z-of_z w64 c.object_word.result fits));
      kept = c.write.ensures.kept ∙ c.loop-number.invariant.kept;
    }

pub returns-clause-written : goal.returns-clause-written
returns-clause-written g c =
    let s = shape_in (shapes c.args.types) c.args.of in
    filled-all (g.B.Blocks.blocks c.args.heap.now) c.args.block c.args.at (object_words s) (words_for s) (object_many s c.requires.fit) c.requires.within (g.B.Blocks.blocks c.loop-number.heap) c.loop-number.number
    c.loop-number.invariant.wrote (let f = c.loop-number-test.false in let e = c.words-number-end.ensures in omega arith)
