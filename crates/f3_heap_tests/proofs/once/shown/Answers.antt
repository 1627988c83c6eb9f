-- The new block has the words that were asked for.
use Rattle.std.proofs.Common.{◌≡◌, length, ap, ◌∙◌, arith}
use Rattle.std.specs.Prelude.{pos}
use Rattle.std.proofs.lemmas.List.{length-replicate}
use Rattle.f3_live_blocks.specs.Blocks.{words_of, with_taken}
use Rattle.f3_live_blocks.proofs.Laws.{words-insert_same}
use Rattle.f3_heap_tests.proofs.once.shown.Goals as goal

pub read-requires-clause-within : goal.read-requires-clause-within
read-requires-clause-within g c =
    let m = g.B.Blocks.blocks c.args.heap.now in
    let long : length (words_of (with_taken m c.in-Some.block c.args.words) c.in-Some.block) ≡ c.args.words = ap length (words-insert_same m c.in-Some.block _) ∙ length-replicate c.args.words (pos 0) in
    rw c.in-Some.ensures.taken (omega (arith, long, c.requires))
