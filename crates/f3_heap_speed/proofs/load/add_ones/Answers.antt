-- A word is written.
use Rattle.std.proofs.Common.{length, sym, ap, subst, ◌∙◌, arith}
use Rattle.std.proofs.lemmas.List.{length-set}
use Rattle.f3_live_blocks.specs.Blocks.{Live, IsLive, words_of}
use Rattle.f3_live_blocks.proofs.Laws.{live-insert_same, words-insert_same}
use Rattle.f3_heap_speed.proofs.load.add_ones.Goals as goal

pub loop-preserved : goal.loop-preserved
loop-preserved g c = (
  subst (λ (m : Live). IsLive m c.args.block) (sym c.write.ensures.written) (live-insert_same (g.B.Blocks.blocks c.loop.heap) c.args.block _),
  c.loop.invariant.1 ∙ sym (ap (λ (m : Live). length (words_of m c.args.block)) c.write.ensures.written
      ∙ ap length (words-insert_same (g.B.Blocks.blocks c.loop.heap) c.args.block _)
      ∙ length-set (words_of (g.B.Blocks.blocks c.loop.heap) c.args.block) c.loop.at _),
  omega (arith, c.requires.long, c.loop.invariant.2),
)
