use Rattle.std.proofs.Common.{zero, suc, ◌≡◌, ◌<◌, ℕ, ℤ, List, [], ◌∷◌, pos, refl, ap, sym, ◌∙◌, arith, rules, w64}
use mir.Val.{SFits}
use Rattle.std.proofs.lemmas.Int.{to_z-of_z, ints}
use Rattle.f3_live_blocks.specs.Blocks.{words_of, with_words}
use Rattle.f3_objects.specs.Holds.{with_words_at}
use Rattle.f3_objects.proofs.Writes.{wrote_live, wrote_length}
use Rattle.f3_objects_tests.specs.Grows.{dims_of}
use Rattle.f3_objects_tests.proofs.Growing.{wrote_first, wrote_next}
use Rattle.f3_objects_tests.proofs.holders.link.Goals as goal

dims_one : (r n : ℕ) → r ≡ 1 → dims_of r n ≡ pos 1 ∷ pos n ∷ []
dims_one zero n e = cc
dims_one (suc r) n e = refl

dims_none : (r n : ℕ) → r < 2 → (r ≡ 1 → ⊥) → dims_of r n ≡ []
dims_none zero n l e = refl
dims_none (suc r) n l e = absurd (e (omega arith))

pub write-requires-then-rank-eq1-clause-live : goal.write-requires-then-rank-eq1-clause-live
write-requires-then-rank-eq1-clause-live g c =
    let old = g.B.Blocks.blocks c.args.heap.now in
    let l = c.requires.within in
    let fits : SFits w64 c.word.result = search rules in
    let one = wrote_first old (g.B.Blocks.blocks c.write.new.self) c.args.block c.args.at (pos c.args.inner) _ c.requires.live (omega arith) (to_z-of_z w64 c.word.result fits ∙ c.word.ensures.value) c.write.ensures.written in
    wrote_live old (g.B.Blocks.blocks c.write.new.self) c.args.block c.args.at (pos c.args.inner ∷ []) one

pub write-requires-then-rank-eq1-clause-within : goal.write-requires-then-rank-eq1-clause-within
write-requires-then-rank-eq1-clause-within g c =
    let old = g.B.Blocks.blocks c.args.heap.now in
    let l = c.requires.within in
    let fits : SFits w64 c.word.result = search rules in
    let one = wrote_first old (g.B.Blocks.blocks c.write.new.self) c.args.block c.args.at (pos c.args.inner) _ c.requires.live (omega arith) (to_z-of_z w64 c.word.result fits ∙ c.word.ensures.value) c.write.ensures.written in
    let k = wrote_length old (g.B.Blocks.blocks c.write.new.self) c.args.block c.args.at (pos c.args.inner ∷ []) (omega arith) one in
    omega (arith, c.if-rank-eq1.true)

pub write-requires-then-rank-eq1-2-clause-live : goal.write-requires-then-rank-eq1-2-clause-live
write-requires-then-rank-eq1-2-clause-live g c =
    let old = g.B.Blocks.blocks c.args.heap.now in
    let l = c.requires.within in
    let fits : SFits w64 c.word.result = search rules in
    let one = wrote_first old (g.B.Blocks.blocks c.write.new.self) c.args.block c.args.at (pos c.args.inner) _ c.requires.live (omega arith) (to_z-of_z w64 c.word.result fits ∙ c.word.ensures.value) c.write.ensures.written in
    let r = c.if-rank-eq1.true in
    let two = wrote_next old (g.B.Blocks.blocks c.write.new.self) (g.B.Blocks.blocks c.write-then-rank-eq1.new.self) c.args.block c.args.at 1 (pos c.args.inner ∷ []) (pos 1) _ one refl (omega arith) refl c.write-then-rank-eq1.ensures.written in
    wrote_live old (g.B.Blocks.blocks c.write-then-rank-eq1.new.self) c.args.block c.args.at (pos c.args.inner ∷ pos 1 ∷ []) two

pub write-requires-then-rank-eq1-2-clause-within : goal.write-requires-then-rank-eq1-2-clause-within
write-requires-then-rank-eq1-2-clause-within g c =
    let old = g.B.Blocks.blocks c.args.heap.now in
    let l = c.requires.within in
    let fits : SFits w64 c.word.result = search rules in
    let one = wrote_first old (g.B.Blocks.blocks c.write.new.self) c.args.block c.args.at (pos c.args.inner) _ c.requires.live (omega arith) (to_z-of_z w64 c.word.result fits ∙ c.word.ensures.value) c.write.ensures.written in
    let r = c.if-rank-eq1.true in
    let two = wrote_next old (g.B.Blocks.blocks c.write.new.self) (g.B.Blocks.blocks c.write-then-rank-eq1.new.self) c.args.block c.args.at 1 (pos c.args.inner ∷ []) (pos 1) _ one refl (omega arith) refl c.write-then-rank-eq1.ensures.written in
    let k = wrote_length old (g.B.Blocks.blocks c.write-then-rank-eq1.new.self) c.args.block c.args.at (pos c.args.inner ∷ pos 1 ∷ []) (omega arith) two in
    omega arith

pub returns-then-rank-eq1-clause-written : goal.returns-then-rank-eq1-clause-written
returns-then-rank-eq1-clause-written g c =
    let old = g.B.Blocks.blocks c.args.heap.now in
    let l = c.requires.within in
    let fits : SFits w64 c.word.result = search rules in
    let one = wrote_first old (g.B.Blocks.blocks c.write.new.self) c.args.block c.args.at (pos c.args.inner) _ c.requires.live (omega arith) (to_z-of_z w64 c.word.result fits ∙ c.word.ensures.value) c.write.ensures.written in
    let r = c.if-rank-eq1.true in
    let two = wrote_next old (g.B.Blocks.blocks c.write.new.self) (g.B.Blocks.blocks c.write-then-rank-eq1.new.self) c.args.block c.args.at 1 (pos c.args.inner ∷ []) (pos 1) _ one refl (omega arith) refl c.write-then-rank-eq1.ensures.written in
    let three = wrote_next old (g.B.Blocks.blocks c.write-then-rank-eq1.new.self) (g.B.Blocks.blocks c.write-then-rank-eq1-2.new.self) c.args.block c.args.at 2 (pos c.args.inner ∷ pos 1 ∷ []) (pos c.args.count) _ two refl (omega arith) (let few = c.requires.few in omega (arith, ints)) c.write-then-rank-eq1-2.ensures.written in
    three.is ∙ ap (λ (l : List ℤ). with_words old c.args.block (with_words_at (words_of old c.args.block) c.args.at (pos c.args.inner ∷ l))) (sym (dims_one c.args.rank c.args.count r))

pub returns-else-rank-eq1-clause-written : goal.returns-else-rank-eq1-clause-written
returns-else-rank-eq1-clause-written g c =
    let old = g.B.Blocks.blocks c.args.heap.now in
    let l = c.requires.within in
    let fits : SFits w64 c.word.result = search rules in
    let one = wrote_first old (g.B.Blocks.blocks c.write.new.self) c.args.block c.args.at (pos c.args.inner) _ c.requires.live (omega arith) (to_z-of_z w64 c.word.result fits ∙ c.word.ensures.value) c.write.ensures.written in
    one.is ∙ ap (λ (l : List ℤ). with_words old c.args.block (with_words_at (words_of old c.args.block) c.args.at (pos c.args.inner ∷ l))) (sym (dims_none c.args.rank c.args.count c.requires.ranked c.if-rank-eq1.false))
