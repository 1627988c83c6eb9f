-- The new block has the words that were asked for.
use Rattle.std.proofs.Common.{◌≡◌, length, ap, ◌∙◌, arith}
use Rattle.std.specs.Prelude.{pos}
use Rattle.std.proofs.lemmas.List.{length-replicate}
use Rattle.f3_live_blocks.specs.Blocks.{words_of, with_taken}
use Rattle.f3_live_blocks.proofs.Laws.{words-insert_same}
use Rattle.f3_heap_tests.proofs.once.has_used.Goals as goal

pub write-requires-clause-within : goal.write-requires-clause-within
write-requires-clause-within g c =
    let m = g.B.Blocks.blocks c.args.heap.now in
    let long : length (words_of (with_taken m c.in-Ok.block c.args.words) c.in-Ok.block) ≡ c.args.words = ap length (words-insert_same m c.in-Ok.block _) ∙ length-replicate c.args.words (pos 0) in
    rw c.in-Ok.ensures.taken (omega (arith, long, c.requires))
