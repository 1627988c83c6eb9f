use Rattle.std.proofs.Common.{◌≡◌, true, take}
use Rattle.f3_live_blocks.specs.Blocks.{words_of}
use Rattle.f3_word_copies.specs.Fits.{words_fit}
use Rattle.f3_word_copies.proofs.fitting.are_short.Given as goal

abbrev pub invariant-loop-at : goal.invariant-loop-at
invariant-loop-at g l = words_fit (take l.at (words_of (g.B.Blocks.blocks l.heap) l.block)) ≡ true
