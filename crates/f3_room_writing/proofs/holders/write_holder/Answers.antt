use Rattle.std.proofs.Common.{◌≡◌, ◌+◌, length, pos, ap, sym, subst, ◌∙◌, arith, rules, w64}
use Rattle.std.proofs.lemmas.Int.{to_z-of_z}
use mir.Val.{SFits}
use Rattle.f3_live_blocks.specs.Blocks.{Live, IsLive, words_of}
use Rattle.f3_data.specs.Values.{spans_of}
use Rattle.f3_rooms.specs.Places.{with_word}
use Rattle.f3_rooms.specs.Laws.{with_bounds}
use Rattle.f3_rooms.proofs.Words.{put_live, put_long}
use Rattle.f3_room_writing.proofs.holders.write_holder.Goals as goal

pub write_bounds-requires-clause-live : goal.write_bounds-requires-clause-live
write_bounds-requires-clause-live g c =
    let old = g.B.Blocks.blocks c.args.heap.now in
    let fits : SFits w64 c.word.result = search rules in
    let first : g.B.Blocks.blocks c.write.new.self ≡ with_word old c.args.block c.args.at (pos c.args.held) =
    c.write.ensures.written ∙ ap (with_word old c.args.block c.args.at) (to_z-of_z w64 c.word.result fits ∙ c.word.ensures.value) in
    subst (λ (k : Live). IsLive k c.args.block) (sym first) (put_live old c.args.block c.args.at (pos c.args.held) c.args.block c.requires.live)

pub write_bounds-requires-clause-within : goal.write_bounds-requires-clause-within
write_bounds-requires-clause-within g c =
    let old = g.B.Blocks.blocks c.args.heap.now in
    let fits : SFits w64 c.word.result = search rules in
    let first : g.B.Blocks.blocks c.write.new.self ≡ with_word old c.args.block c.args.at (pos c.args.held) =
    c.write.ensures.written ∙ ap (with_word old c.args.block c.args.at) (to_z-of_z w64 c.word.result fits ∙ c.word.ensures.value) in
    let e : length (words_of (g.B.Blocks.blocks c.write.new.self) c.args.block) ≡ length (words_of old c.args.block) =
    ap (λ (k : Live). length (words_of k c.args.block)) first ∙ put_long old c.args.block c.args.at (pos c.args.held) c.args.block in
    let w = c.requires.within in
    omega arith

pub returns-clause-written : goal.returns-clause-written
returns-clause-written g c =
    let old = g.B.Blocks.blocks c.args.heap.now in
    let fits : SFits w64 c.word.result = search rules in
    let first : g.B.Blocks.blocks c.write.new.self ≡ with_word old c.args.block c.args.at (pos c.args.held) =
    c.write.ensures.written ∙ ap (with_word old c.args.block c.args.at) (to_z-of_z w64 c.word.result fits ∙ c.word.ensures.value) in
    c.write_bounds.ensures ∙ ap (λ (k : Live). with_bounds k c.args.block (c.args.at + 1) (spans_of c.args.spans.now)) first
