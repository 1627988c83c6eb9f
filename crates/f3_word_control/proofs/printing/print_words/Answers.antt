use Rattle.std.proofs.Common.{rules, pos, ap, ◌∙◌}
use Rattle.std.proofs.lemmas.Int.{to_z-of_z}
use mir.Val.{SFits}
use mir.Syntax.{w64}
use Rattle.f3_live_blocks.specs.Blocks.{words_of}
use Rattle.f3_meaning_whole.specs.Exec.{text_of}
use Rattle.f3_word_control.specs.Texts.{text_in}
use Rattle.f3_word_control.proofs.Texts.{wrote_next, fault_next, on_err}
use Rattle.f3_word_control.proofs.printing.print_words.Goals as goal

pub returns-in_err-print_scalar-clause-front : goal.returns-in_err-print_scalar-clause-front
returns-in_err-print_scalar-clause-front g c =
    let fits : SFits w64 c.read.result = search rules in
    on_err _ (fault_next (text_in c.args.of) (words_of (g.B.Blocks.blocks c.args.heap.now) c.args.block) c.loop-at.at (pos 0) _ (rw c.length-at-end.ensures at c.loop-at-test.true)
    (ap text_of c.scalar_of.ensures ∙ ap (text_in c.args.of) (to_z-of_z w64 _ fits ∙ c.read.ensures)) c.loop-at.invariant c.in_err-print_scalar.ensures.front)

pub loop-at-preserved : goal.loop-at-preserved
loop-at-preserved g c =
    let fits : SFits w64 c.read.result = search rules in
    wrote_next (text_in c.args.of) (words_of (g.B.Blocks.blocks c.args.heap.now) c.args.block) c.loop-at.at (pos 0) _ (rw c.length-at-end.ensures at c.loop-at-test.true)
    (ap text_of c.scalar_of.ensures ∙ ap (text_in c.args.of) (to_z-of_z w64 _ fits ∙ c.read.ensures)) c.loop-at.invariant c.in_ok-print_scalar.ensures.all
