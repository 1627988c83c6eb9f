use Rattle.std.proofs.Common.{◌∙◌, sym, ap, subst, refl, ◌<◌, List, length}
use Rattle.std.specs.Prelude.{ℤ, pos}
use Rattle.f3_live_blocks.specs.Blocks.{words_of, with_words}
use Rattle.f3_desc.specs.declared.descriptor.Dim.{Dim}
use Rattle.f3_desc.specs.Laws.{size_of}
use Rattle.f3_room_arrays.specs.Words.{AreInside, places_from}
use Rattle.f3_word_copies.specs.Spread.{source_words, spread_over}
use Rattle.f3_word_copies.proofs.Spreads.{congruent-same}
use Rattle.f3_word_copies.proofs.putting.take_source.Goals as goal

pub spread-requires-clause-inside : goal.spread-requires-clause-inside
spread-requires-clause-inside g c =
    let old = g.B.Blocks.blocks c.args.heap.now in
    let a = c.args.elements.now in
    let some = c.if-has_elements.ensures.some refl in (
      pos a.offset,
      congruent-same a.offset,
      subst (λ (ds : List Dim). AreInside (length (words_of old a.block)) (length (source_words old c.args.source.now)) (places_from (pos a.offset) ds)) (sym c.deref-then-has_elements.ensures.0)
          (c.requires.within (subst (λ (ds : List Dim). 0 < size_of ds) c.deref.ensures.0 some)).inside,
    )

pub returns-then-has_elements-clause-some : goal.returns-then-has_elements-clause-some
returns-then-has_elements-clause-some g c some =
    let old = g.B.Blocks.blocks c.args.heap.now in
    let a = c.args.elements.now in
    let inside = (c.requires.within some).inside in
    let us : List ℤ = words_of old a.block in
    let ws : List ℤ = source_words old c.args.source.now in
    c.spread.ensures.written (pos a.offset) (congruent-same a.offset) (subst (λ (ds : List Dim). AreInside (length us) (length ws) (places_from (pos a.offset) ds)) (sym c.deref-then-has_elements.ensures.0) inside)
    ∙ ap (λ (ds : List Dim). with_words old a.block (spread_over us ws (places_from (pos a.offset) ds))) c.deref-then-has_elements.ensures.0
