use Rattle.std.proofs.Common.{◌∙◌, sym, ◌<◌, length, rules, w64, FitsSigned, arith}
use Rattle.std.proofs.lemmas.Int.{to_z-of_z}
use Rattle.f3_live_blocks.specs.Blocks.{words_of}
use Rattle.f3_word_copies.proofs.Fitted.{fit-more, unfit}
use Rattle.f3_word_copies.proofs.fitting.are_short.Goals as goal

pub returns-then-not-is_short : goal.returns-then-not-is_short
returns-then-not-is_short g c =
    let m = g.B.Blocks.blocks c.args.heap.now in
    let lt : c.loop-at.at < length (words_of m c.args.block) = omega (arith, c.length-at-end.ensures) in
    let fits : FitsSigned w64 c.read.result = search rules in
    sym (unfit (words_of m c.args.block) c.loop-at.at _ _ lt (to_z-of_z w64 c.read.result fits ∙ c.read.ensures) (sym c.if-not-is_short.ensures))

pub loop-at-preserved : goal.loop-at-preserved
loop-at-preserved g c =
    let m = g.B.Blocks.blocks c.args.heap.now in
    let lt : c.loop-at.at < length (words_of m c.args.block) = omega (arith, c.length-at-end.ensures) in
    let fits : FitsSigned w64 c.read.result = search rules in
    fit-more (words_of m c.args.block) c.loop-at.at _ _ lt (to_z-of_z w64 c.read.result fits ∙ c.read.ensures) c.loop-at.invariant (sym c.if-not-is_short.ensures)
