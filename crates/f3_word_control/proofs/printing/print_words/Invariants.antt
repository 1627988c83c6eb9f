use Rattle.std.proofs.Common.{take}
use Rattle.std.specs.Prelude.{flat_map}
use Rattle.f3_live_blocks.specs.Blocks.{words_of}
use Rattle.f3_output.specs.Output.{state_of, Wrote}
use Rattle.f3_word_control.specs.Texts.{text_in}
use Rattle.f3_word_control.proofs.printing.print_words.Given as goal

abbrev pub invariant-loop-at : goal.invariant-loop-at
invariant-loop-at g l = Wrote (state_of g.W.Write.contents l.fn.output) (state_of g.W.Write.contents l.output)
    (flat_map (text_in l.of) (take l.at (words_of (g.B.Blocks.blocks l.heap) l.block)))
