use Rattle.std.proofs.Common.{◌≡◌, ◌∙◌, ap, subst, ℕ, ◌+◌, ◌*◌, ◌≤◌, length, List}
use Rattle.std.specs.Prelude.{ℤ, pos}
use Rattle.f3_live_blocks.specs.Blocks.{Live, words_of}
use Rattle.f3_desc.specs.Descriptor.{places, progression}
use Rattle.f3_rooms.specs.Forms.{words_for}
use Rattle.f3_objects.proofs.Writes.{words-with}
use Rattle.f3_room_arrays.specs.Words.{copied, AreInside}
use Rattle.f3_room_arrays.proofs.Objects.{objects-read, reads-of}
use Rattle.f3_room_arrays.proofs.gathering.gather.Goals as goal

pub returns-clause-read : goal.returns-clause-read
returns-clause-read g c ts x s ps are =
    let old = g.B.Blocks.blocks c.args.heap.now in
    let now = g.B.Blocks.blocks c.gather_words.new.heap in
    let a = c.args.elements.now in
    let k : ℕ = length (places a) in
    let us : List ℤ = words_of old c.args.to in
    let ws : List ℤ = words_of old a.block in
    let inside = subst (λ (w : ℕ). AreInside (length ws) w (places a)) are.words c.requires.within.inside in
    let room = subst (λ (w : ℕ). c.args.to_at + k * w ≤ length us) are.words c.requires.room in
    let is : words_of now c.args.to ≡ copied (words_for s) us ws (progression (pos c.args.to_at) (pos (words_for s)) k) (places a) =
    ap (λ (m : Live). words_of m c.args.to) c.gather_words.ensures.written ∙ words-with old c.args.to _
    ∙ ap (λ (w : ℕ). copied w us ws (progression (pos c.args.to_at) (pos w) k) (places a)) are.words in
    reads-of ts old now x s ps c.args.to c.args.to_at _ are.sound c.gather_words.ensures.written (objects-read ts old x are.sound a.block s are.flat now c.args.to us c.args.to_at (places a) ps are.tells room inside is)
