-- The new block is live and has so many words.
use Rattle.std.proofs.Common.{pos, length, sym, ap, subst, ◌∙◌}
use Rattle.std.proofs.lemmas.List.{length-replicate}
use Rattle.f3_live_blocks.specs.Blocks.{Live, IsLive, words_of}
use Rattle.f3_live_blocks.proofs.Laws.{live-insert_same, words-insert_same}
use Rattle.f3_heap_speed.proofs.load.touches.Goals as goal

pub add_ones-requires-clause-live : goal.add_ones-requires-clause-live
add_ones-requires-clause-live g c = subst (λ (m : Live). IsLive m c.in-Ok.block) (sym c.in-Ok.ensures.taken) (live-insert_same (g.B.Blocks.blocks c.args.heap.now) c.in-Ok.block _)

pub add_ones-requires-clause-long : goal.add_ones-requires-clause-long
add_ones-requires-clause-long g c = (
  sym (ap (λ (m : Live). length (words_of m c.in-Ok.block)) c.in-Ok.ensures.taken
      ∙ ap length (words-insert_same (g.B.Blocks.blocks c.args.heap.now) c.in-Ok.block _)
      ∙ length-replicate c.args.size (pos 0)),
  c.requires,
)
