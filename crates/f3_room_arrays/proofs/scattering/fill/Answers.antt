use Rattle.std.proofs.Common.{◌≡◌, ◌∙◌, sym, ap, subst, ℕ, length}
use Rattle.std.specs.Prelude.{pos}
use Rattle.f3_meaning_whole.specs.Value.{spread}
use Rattle.f3_live_blocks.specs.Blocks.{words_of, with_words}
use Rattle.f3_desc.specs.Descriptor.{places, progression}
use Rattle.f3_rooms.specs.Held.{Empty}
use Rattle.f3_rooms.specs.Forms.{words_for}
use Rattle.f3_rooms.specs.Values.{object}
use Rattle.f3_room_arrays.specs.Words.{copied, AreInside}
use Rattle.f3_room_arrays.specs.Elements.{StandsAt}
use Rattle.f3_room_arrays.proofs.Numbers.{progression-length}
use Rattle.f3_room_arrays.proofs.Running.{same-inside}
use Rattle.f3_room_arrays.proofs.Objects.{objects-put, same-values, zip-length, puts-as}
use Rattle.f3_room_arrays.proofs.scattering.fill.Goals as goal

pub spread_words-requires-clause-room : goal.spread_words-requires-clause-room
spread_words-requires-clause-room g c = same-inside _ c.args.words c.args.from_at (length (places c.args.elements.now)) c.requires.room

pub returns-clause-put : goal.returns-clause-put
returns-clause-put g c ts x s ps are =
    let old = g.B.Blocks.blocks c.args.heap.now in
    let a = c.args.elements.now in
    let k : ℕ = length (places a) in
    let n : ℕ = words_for s in
    let many : k ≡ length ps = zip-length (StandsAt ts x a.block s) (places a) ps are.tells in
    let line = subst (λ (w : ℕ). AreInside (length (words_of old c.args.from)) w (progression (pos c.args.from_at) (pos 0) k)) are.words (same-inside (length (words_of old c.args.from)) c.args.words c.args.from_at k c.requires.room) in
    let puts = objects-put ts x s are.flat old c.args.from a.block old are.sound c.requires.within.live (places a) ps are.tells (progression (pos c.args.from_at) (pos 0) k) (progression-length (pos c.args.from_at) (pos 0) k) line in
    let values = same-values old s c.args.from c.args.from_at k ∙ ap (λ (j : ℕ). spread j (object old s c.args.from c.args.from_at Empty)) many in
    let is : with_words old a.block (copied n (words_of old a.block) (words_of old c.args.from) (places a) (progression (pos c.args.from_at) (pos 0) k)) ≡ g.B.Blocks.blocks c.spread_words.new.heap =
    ap (λ (w : ℕ). with_words old a.block (copied w (words_of old a.block) (words_of old c.args.from) (places a) (progression (pos c.args.from_at) (pos 0) k))) (sym are.words) ∙ sym c.spread_words.ensures.written in
    puts-as is values puts
