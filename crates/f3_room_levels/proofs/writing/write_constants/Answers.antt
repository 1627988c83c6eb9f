use Rattle.std.proofs.Common.{◌+◌, ◌∷◌, [], length, map, drop, get_or, refl, ap, ◌∙◌, FitsSigned, w64, pos, arith, rules}
use Rattle.std.proofs.lemmas.Int.{to_z-of_z}
use Rattle.std.proofs.lemmas.List.{length-map}
use Rattle.f3_program.specs.declared.declarations.Constant.{Constant}
use Rattle.f3_program.specs.declared.declarations.Constant.TheVariants as constant
use Rattle.f3_rooms.specs.Places.{with_word}
use Rattle.f3_room_levels.specs.Initial.{word_of}
use Rattle.f3_room_levels.proofs.Leaving.{leaves_all, leaves_front, leaves_next, leaves_none, constant_next, constants_none}
use Rattle.f3_room_levels.proofs.writing.write_constants.Goals as goal

pub loop-constant-init : goal.loop-constant-init
loop-constant-init g c = record {
  leaves = leaves_all (g.B.Blocks.blocks c.args.heap.now) c.args.block c.args.at (length c.args.constants.now) (map word_of c.args.constants.now) (length-map c.args.constants.now word_of) c.requires.blank;
  kept = refl;
}

pub write-requires-clause-live : goal.write-requires-clause-live
write-requires-clause-live g c =
    let cs = c.args.constants.now in
    let i = c.loop-constant.constant-index in
    let d : Constant = constant.Number (pos 0) in
    (leaves_front (g.B.Blocks.blocks c.args.heap.now) (g.B.Blocks.blocks c.loop-constant.heap) c.args.block c.args.at c.loop-constant.place (map word_of (drop i cs)) (map word_of cs)
    (word_of (get_or cs i d) ∷ []) (map word_of (drop (i + 1) cs)) c.loop-constant.invariant.leaves (constant_next cs i d c.loop-constant-test.true) 1 refl).live

pub write-requires-clause-within : goal.write-requires-clause-within
write-requires-clause-within g c =
    let cs = c.args.constants.now in
    let i = c.loop-constant.constant-index in
    let d : Constant = constant.Number (pos 0) in
    let w = (leaves_front (g.B.Blocks.blocks c.args.heap.now) (g.B.Blocks.blocks c.loop-constant.heap) c.args.block c.args.at c.loop-constant.place (map word_of (drop i cs)) (map word_of cs)
    (word_of (get_or cs i d) ∷ []) (map word_of (drop (i + 1) cs)) c.loop-constant.invariant.leaves (constant_next cs i d c.loop-constant-test.true) 1 refl).within in
    omega arith

pub overflow_add-place : goal.overflow_add-place
overflow_add-place g c =
    let cs = c.args.constants.now in
    let i = c.loop-constant.constant-index in
    let d : Constant = constant.Number (pos 0) in
    let w = (leaves_front (g.B.Blocks.blocks c.args.heap.now) (g.B.Blocks.blocks c.loop-constant.heap) c.args.block c.args.at c.loop-constant.place (map word_of (drop i cs)) (map word_of cs)
    (word_of (get_or cs i d) ∷ []) (map word_of (drop (i + 1) cs)) c.loop-constant.invariant.leaves (constant_next cs i d c.loop-constant-test.true) 1 refl).within in
    let long = c.loop-constant.invariant.leaves.long in
    omega (arith, c.length.ensures, c.length.type_inv)

pub loop-constant-preserved : goal.loop-constant-preserved
loop-constant-preserved g c =
    let now = g.B.Blocks.blocks c.loop-constant.heap in
    let cs = c.args.constants.now in
    let i = c.loop-constant.constant-index in
    let d : Constant = constant.Number (pos 0) in
    let fits : FitsSigned w64 c.word_of.result = search rules in
    record {
      leaves = leaves_next (g.B.Blocks.blocks c.args.heap.now) now c.args.block c.args.at c.loop-constant.place (map word_of (drop i cs)) (map word_of cs)
          (word_of (get_or cs i d) ∷ []) (map word_of (drop (i + 1) cs)) c.loop-constant.invariant.leaves (constant_next cs i d c.loop-constant-test.true)
          (g.B.Blocks.blocks c.write.new.self) (c.loop-constant.place + 1)
          (c.write.ensures.written ∙ ap (with_word now c.args.block c.loop-constant.place) (to_z-of_z w64 c.word_of.result fits ∙ c.word_of.ensures)) refl;
      kept = c.write.ensures.kept ∙ c.loop-constant.invariant.kept;
    }

pub returns-clause-written : goal.returns-clause-written
returns-clause-written g c =
    let cs = c.args.constants.now in
    let i = c.loop-constant.constant-index in
    leaves_none (g.B.Blocks.blocks c.args.heap.now) (g.B.Blocks.blocks c.loop-constant.heap) c.args.block c.args.at c.loop-constant.place (map word_of (drop i cs)) (map word_of cs)
    (constants_none cs i (omega arith)) c.loop-constant.invariant.leaves

pub returns-clause-kept : goal.returns-clause-kept
returns-clause-kept g c = c.loop-constant.invariant.kept
