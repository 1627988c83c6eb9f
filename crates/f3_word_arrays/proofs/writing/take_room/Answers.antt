use Rattle.std.proofs.Common.{◌≡◌, ◌∙◌, ap, subst, ℕ, ◌*◌, ◌<◌, ◌^◌, length}
use Rattle.f3_live_blocks.specs.Blocks.{with_taken, words_of}
use Rattle.f3_word_arrays.proofs.Words.{taken-long, least-is}
use Rattle.f3_word_arrays.proofs.writing.take_room.Goals as goal

pub returns-in-Ok-clause-took : goal.returns-in-Ok-clause-took
returns-in-Ok-clause-took g c =
    let m = g.B.Blocks.blocks c.args.heap.now in
    let asked : ℕ = c.saturating_mul.result in
    let long : length (words_of (g.B.Blocks.blocks c.take.new.self) c.in-Ok.block) ≡ asked = ap (λ l. length (words_of l c.in-Ok.block)) c.in-Ok.ensures.taken ∙ taken-long m c.in-Ok.block asked in
    let short : asked < 2 ^ 63 = subst (λ k. k < 2 ^ 63) long (c.blocks_are_short.ensures c.in-Ok.block) in
    let is : asked ≡ c.args.count * c.args.words = least-is (c.args.count * c.args.words) asked c.saturating_mul.ensures short in
    (c.in-Ok.ensures.fresh, c.in-Ok.ensures.taken ∙ ap (with_taken m c.in-Ok.block) is, subst (λ k. k < 2 ^ 63) is short)
