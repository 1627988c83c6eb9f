use Rattle.std.proofs.Common.{◌∙◌, sym, ap, subst, List, length}
use Rattle.f3_live_blocks.specs.Blocks.{words_of, with_words}
use Rattle.f3_program.specs.declared.declarations.Derived.{Derived}
use Rattle.f3_meaning_whole.specs.Shape.{Shape, shape_in, shapes_of}
use Rattle.f3_desc.specs.Descriptor.{places}
use Rattle.f3_room_levels.specs.Initial.{object_words}
use Rattle.f3_room_arrays.specs.Changes.{LieWithin}
use Rattle.f3_word_copies.specs.Spread.{spread_over}
use Rattle.f3_word_copies.proofs.Values.{initial-takes, initial-within}
use Rattle.f3_word_copies.proofs.putting.begin.Goals as goal

pub take_source-requires-clause-within : goal.take_source-requires-clause-within
take_source-requires-clause-within g c some =
    let old = g.B.Blocks.blocks c.args.heap.now in
    let a = c.args.area.now in
    let q = c.requires.can in
    let there = (q.3).there in
    let same = ap (λ (ds : List Derived). shape_in (shapes_of ds) a.of) there.derived in
    subst (λ (s : Shape). LieWithin old a.elements (length (object_words s))) (sym same) (initial-within q.0 c.args.types old q.1 a q.2 there (q.3).can some)

pub returns-clause-takes : goal.returns-clause-takes
returns-clause-takes g c p x r is =
    let old = g.B.Blocks.blocks c.args.heap.now in
    let a = c.args.area.now in
    let same = ap (λ (ds : List Derived). shape_in (shapes_of ds) a.of) is.there.derived in
    initial-takes p c.args.types old x a r is.there _ is.can c.take_source.ensures.none
    (λ some. c.take_source.ensures.some some
    ∙ ap (λ (s : Shape). with_words old a.elements.block (spread_over (words_of old a.elements.block) (object_words s) (places a.elements))) same)
