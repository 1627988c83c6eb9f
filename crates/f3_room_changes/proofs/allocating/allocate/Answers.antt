use Rattle.std.proofs.Common.{◌≡◌, ◌≢◌, length, sym, ap, subst, ◌∙◌, arith}
use Rattle.f3_live_blocks.specs.Blocks.{Live, IsLive, words_of}
use Rattle.f3_live_blocks.proofs.Laws.{live-insert, words-insert_other, fresh-apart}
use Rattle.f3_heap_laws.specs.Answers.{Answer, sizes}
use Rattle.f3_data.specs.Values.{spans_of}
use Rattle.f3_rooms.specs.Laws.{with_holder}
use Rattle.f3_room_changes.proofs.Bounding.{as_many}
use Rattle.f3_room_changes.proofs.Places.{at_live, at_long}
use Rattle.f3_room_changes.proofs.Allocated.{allocated}
use Rattle.f3_room_changes.proofs.allocating.allocate.Goals as goal

pub write_holder-requires-clause-live : goal.write_holder-requires-clause-live
write_holder-requires-clause-live g c =
    let h = c.requires.vacant in
    let old = g.B.Blocks.blocks c.args.heap.now in
    let live = at_live h.0 old h.1 h.2 h.3 h.4 c.args.block c.args.at h.5.here in
    subst (λ (k : Live). IsLive k c.args.block) (sym c.in_ok-held.ensures.taken) (live-insert old c.in_ok-held.held _ c.args.block live)

pub write_holder-requires-clause-within : goal.write_holder-requires-clause-within
write_holder-requires-clause-within g c =
    let h = c.requires.vacant in
    let old = g.B.Blocks.blocks c.args.heap.now in
    let live = at_live h.0 old h.1 h.2 h.3 h.4 c.args.block c.args.at h.5.here in
    let own : c.args.block ≢ c.in_ok-held.held = fresh-apart old c.in_ok-held.held c.args.block c.in_ok-held.ensures.fresh live in
    let e : length (words_of (g.B.Blocks.blocks c.take.new.self) c.args.block) ≡ length (words_of old c.args.block) =
    ap (λ (k : Live). length (words_of k c.args.block)) c.in_ok-held.ensures.taken ∙ ap length (words-insert_other old c.in_ok-held.held _ c.args.block own) in
    let many = as_many c.args.spans.now in
    let long = at_long h.0 old h.1 h.2 h.3 h.4 c.args.block c.args.at (length (spans_of c.args.spans.now)) h.5.form h.5.here in
    omega arith

pub returns-clause-allocated : goal.returns-clause-allocated
returns-clause-allocated g c = λ ts x r way f k.
    let old = g.B.Blocks.blocks c.args.heap.now in
    let A : Answer → Type 0 = g.B.Blocks.allows (g.B.Blocks.kept c.args.heap.now) (sizes old) c.args.words in
    let held = c.in_ok-held.held in
    allocated ts old (g.B.Blocks.blocks c.write_holder.new.heap) x r way f c.args.block c.args.at (spans_of c.args.spans.now) c.args.words k A held
    c.in_ok-held.ensures.fresh c.write_holder.ensures.positive c.in_ok-held.ensures.allowed
    (c.write_holder.ensures.written ∙ ap (λ (m : Live). with_holder m c.args.block c.args.at held (spans_of c.args.spans.now)) c.in_ok-held.ensures.taken)
