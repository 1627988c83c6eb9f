use Rattle.std.proofs.Common.{◌≡◌, ◌∙◌, refl, ap, subst, length, arith, rules, w64, FitsSigned}
use Rattle.std.specs.Prelude.{ℤ, pos, ◌+ℤ◌, ◌*ℤ◌}
use Rattle.std.proofs.lemmas.Int.{to_z-of_z}
use Rattle.f3_word_copies.specs.Spread.{source_words}
use Rattle.f3_live_blocks.specs.Blocks.{words_of, with_words}
use Rattle.f3_desc.specs.Inner.Congruent.{IsCongruent}
use Rattle.f3_word_copies.proofs.Spreads.{spread-none, congruent-then, single-within, single-spread, next-live, next-source, next-inside, next-spread, last-spread, congruent-none, step-on}
use Rattle.f3_word_copies.proofs.spreading.+spread.Goals as goal

pub write_one-requires-clause-within : goal.write_one-requires-clause-within
write_one-requires-clause-within g t c =
    let old = g.B.Blocks.blocks c.args.heap.now in
    let q = c.requires.inside in
    let e = c.length.ensures in
    let f = c.if-prove.false in
    single-within (length (words_of old c.args.block)) (length (source_words old c.args.source.now)) c.args.at q.0 q.1 (omega arith) (omega arith) c.args.dims.now c.in_default.ensures.cases q.2

pub returns-in_default-clause-written : goal.returns-in_default-clause-written
returns-in_default-clause-written g t c z near inside =
    let old = g.B.Blocks.blocks c.args.heap.now in
    let e = c.length.ensures in
    let f = c.if-prove.false in
    c.write_one.ensures.written ∙ ap (with_words old c.args.block)
    (single-spread (length (words_of old c.args.block)) (length (source_words old c.args.source.now)) c.args.at z near (omega arith) (omega arith) (words_of old c.args.block) (source_words old c.args.source.now) c.args.dims.now
    c.in_default.ensures.cases inside)

pub loop-each-init : goal.loop-each-init
loop-each-init g t c = record {
  done = λ z near inside. spread-none _ c.args.block c.requires.live _;
  place = λ z near. congruent-none c.args.at z c.in-Some.last.now.stride near;
  kept = refl;
}

pub spread-requires : goal.spread-requires
spread-requires g t c κs within =
    let old = g.B.Blocks.blocks c.args.heap.now in
    let mid = g.B.Blocks.blocks c.loop-each.heap in
    let q = c.requires.inside in
    let so = c.loop-each.invariant.done q.0 q.1 q.2 in
    let all = c.args.dims.now in
    let others = c.in-Some.others.now in
    let last = c.in-Some.last.now in
    let split = c.in-Some.ensures.cases.0 in
    let live = next-live old c.args.block c.requires.live c.args.source.now c.requires.source all others last split q.0 c.loop-each._each q.2 mid so in
    let source = next-source old c.args.block c.requires.live c.args.source.now c.requires.source all others last split q.0 c.loop-each._each q.2 mid so in
    let inside = next-inside old c.args.block c.requires.live c.args.source.now c.requires.source all others last split q.0 c.loop-each._each q.2 mid so c.loop-each-test.true in
    (search rules, (search rules, (live, (source, (q.0 +ℤ (pos c.loop-each._each *ℤ last.stride), c.loop-each.invariant.place q.0 q.1, inside)))))

pub loop-each-preserved : goal.loop-each-preserved
loop-each-preserved g t c =
    let old = g.B.Blocks.blocks c.args.heap.now in
    let mid = g.B.Blocks.blocks c.loop-each.heap in
    let all = c.args.dims.now in
    let others = c.in-Some.others.now in
    let last = c.in-Some.last.now in
    let split = c.in-Some.ensures.cases.0 in
    let fits : FitsSigned w64 last.stride = search rules in
    record {
      done = λ z near inside.
          let so = c.loop-each.invariant.done z near inside in
          next-spread old c.args.block c.requires.live c.args.source.now c.requires.source all others last split z c.loop-each._each inside mid so _
          (c.spread.ensures.written (z +ℤ (pos c.loop-each._each *ℤ last.stride)) (c.loop-each.invariant.place z near)
          (next-inside old c.args.block c.requires.live c.args.source.now c.requires.source all others last split z c.loop-each._each inside mid so c.loop-each-test.true));
      place = λ z near.
          congruent-then c.loop-each.place _ _ _ last.stride (c.loop-each.invariant.place z near)
          (subst (λ (k : ℤ). IsCongruent (pos c.place_behind-place.result) (pos c.loop-each.place +ℤ k)) (to_z-of_z w64 last.stride fits) c.place_behind-place.ensures) (step-on z last.stride c.loop-each._each);
      kept = c.spread.ensures.kept ∙ c.loop-each.invariant.kept;
    }

pub returns-clause-written : goal.returns-clause-written
returns-clause-written g t c z near inside =
    let old = g.B.Blocks.blocks c.args.heap.now in
    let mid = g.B.Blocks.blocks c.loop-each.heap in
    let so = c.loop-each.invariant.done z near inside in
    let all : c.in-Some.last.now.extent ≡ c.loop-each._each = omega (arith, c.loop-each-test.false, c.loop-each.auto._each-end) in
    last-spread old c.args.block c.requires.live c.args.source.now c.requires.source c.args.dims.now c.in-Some.others.now c.in-Some.last.now c.in-Some.ensures.cases.0 z c.loop-each._each inside mid so all
