use Rattle.std.proofs.Common.{◌≢◌, ◌∙◌, sym, ap, subst, ℕ, ◌*◌, ◌/◌, ◌<◌, [], ◌∷◌, length, take, rules, w64, FitsSigned}
use Rattle.std.specs.Prelude.{ℤ, pos}
use Rattle.std.proofs.lemmas.Int.{to_z-of_z}
use Rattle.f3_live_blocks.specs.Blocks.{words_of, with_words}
use Rattle.f3_desc.specs.Descriptor.{places, progression}
use Rattle.f3_desc.specs.Laws.{size_of}
use Rattle.f3_room_arrays.specs.Words.{copied}
use Rattle.f3_room_arrays.specs.Changes.{LieWithin}
use Rattle.f3_word_cells.specs.declared.cell.Area.{Area}
use Rattle.f3_word_cells.specs.declared.cell.Datum.{Datum}
use Rattle.f3_word_copies.specs.Spread.{spread_over, fewer_of}
use Rattle.f3_word_copies.specs.Puts.{CanTake}
use Rattle.f3_word_reads.proofs.Copying.{words-same}
use Rattle.f3_word_reads.proofs.Standing.{no-dims, some-dims}
use Rattle.f3_word_copies.proofs.Values.{take-within, scalar-takes, scalar-within, from-live, from-apart, one-within, one-takes, array-takes, same-block}
use Rattle.f3_word_copies.proofs.putting.put.Goals as goal

pub take_source-requires-clause-within : goal.take_source-requires-clause-within
take_source-requires-clause-within g c some =
    let old = g.B.Blocks.blocks c.args.heap.now in
    let q = c.requires.can in
    let can = subst (λ (d : Datum). CanTake q.0 c.args.types old q.1 c.args.area.now q.2 d q.3) c.in-Scalar.is q.4 in
    scalar-within q.0 c.args.types old q.1 c.args.area.now q.2 can.there c.in-Scalar.constant can.agrees some

pub take_source-requires-in-Block-clause-within : goal.take_source-requires-in-Block-clause-within
take_source-requires-in-Block-clause-within g c some =
    let old = g.B.Blocks.blocks c.args.heap.now in
    let q = c.requires.can in
    let can = subst (λ (d : Datum). CanTake q.0 c.args.types old q.1 c.args.area.now q.2 d q.3) c.in-Block.is q.4 in
    one-within q.0 c.args.types old q.1 c.args.area.now q.2 can.there c.in-Block.value q.3 can (no-dims _ c.if-is_empty.ensures) some

pub take_source-requires-in-Block-clause-source : goal.take_source-requires-in-Block-clause-source
take_source-requires-in-Block-clause-source g c some =
    let old = g.B.Blocks.blocks c.args.heap.now in
    let q = c.requires.can in
    let can = subst (λ (d : Datum). CanTake q.0 c.args.types old q.1 c.args.area.now q.2 d q.3) c.in-Block.is q.4 in
    (from-live q.0 c.args.types old q.1 c.args.area.now q.2 can.there c.in-Block.value q.3 can, from-apart q.0 c.args.types old q.1 c.args.area.now q.2 can.there c.in-Block.value q.3 can some)

pub take_array-requires-clause-within : goal.take_array-requires-clause-within
take_array-requires-clause-within g c some =
    let old = g.B.Blocks.blocks c.args.heap.now in
    let q = c.requires.can in
    let there = (q.4).there in
    subst (LieWithin old c.args.area.now.elements) (sym (c.words-size.ensures ∙ words-same q.0 c.args.types old q.1 c.args.area.now q.2 there))
    (take-within q.0 c.args.types old q.1 c.args.area.now q.2 there some)

pub take_array-requires-clause-live : goal.take_array-requires-clause-live
take_array-requires-clause-live g c =
    let old = g.B.Blocks.blocks c.args.heap.now in
    let q = c.requires.can in
    let can = subst (λ (d : Datum). CanTake q.0 c.args.types old q.1 c.args.area.now q.2 d q.3) c.in-Block-2.is q.4 in
    from-live q.0 c.args.types old q.1 c.args.area.now q.2 can.there c.in-Block-2.value q.3 can

pub take_array-requires-clause-apart : goal.take_array-requires-clause-apart
take_array-requires-clause-apart g c some =
    let old = g.B.Blocks.blocks c.args.heap.now in
    let q = c.requires.can in
    let can = subst (λ (d : Datum). CanTake q.0 c.args.types old q.1 c.args.area.now q.2 d q.3) c.in-Block-2.is q.4 in
    from-apart q.0 c.args.types old q.1 c.args.area.now q.2 can.there c.in-Block-2.value q.3 can some

pub returns-in-Scalar-clause-takes : goal.returns-in-Scalar-clause-takes
returns-in-Scalar-clause-takes g c p x r v is =
    let old = g.B.Blocks.blocks c.args.heap.now in
    let a = c.args.area.now in
    let can = subst (λ (d : Datum). CanTake p c.args.types old x a r d v) c.in-Scalar.is is in
    let fits : FitsSigned w64 c.word_of.result = search rules in
    let word = to_z-of_z w64 c.word_of.result fits ∙ c.word_of.ensures in
    scalar-takes p c.args.types old x a r can.there _ c.in-Scalar.constant v can.value can.agrees c.take_source.ensures.none
    (λ some. c.take_source.ensures.some some
    ∙ ap (λ (z : ℤ). with_words old a.elements.block (spread_over (words_of old a.elements.block) (z ∷ []) (places a.elements))) word)

pub returns-in-Block-clause-takes : goal.returns-in-Block-clause-takes
returns-in-Block-clause-takes g c p x r v is =
    let old = g.B.Blocks.blocks c.args.heap.now in
    let a = c.args.area.now in
    let can = subst (λ (d : Datum). CanTake p c.args.types old x a r d v) c.in-Block.is is in
    one-takes p c.args.types old x a r can.there c.in-Block.value v can (no-dims _ c.if-is_empty.ensures) _ c.take_source-in-Block.ensures.none c.take_source-in-Block.ensures.some

pub returns-in-Block-2-clause-takes : goal.returns-in-Block-2-clause-takes
returns-in-Block-2-clause-takes g c p x r v is =
    let old = g.B.Blocks.blocks c.args.heap.now in
    let a = c.args.area.now in
    let can = subst (λ (d : Datum). CanTake p c.args.types old x a r d v) c.in-Block-2.is is in
    let size = c.words-size.ensures ∙ words-same p c.args.types old x a r can.there in
    let from = c.in-Block-2.value.elements.block in
    let same = same-block c.args.datum.now c.in-Block.value c.in-Block-2.value c.in-Block.is c.in-Block-2.is in
    let array : c.in-Block-2.value.elements.dims.items ≢ [] = λ e. some-dims c.in-Block.value.elements.dims.items c.if-is_empty.ensures (ap (λ (b : Area). b.elements.dims.items) same ∙ e) in
    array-takes p c.args.types old x a r can.there c.in-Block-2.value v can array _
    (λ none. c.take_array.ensures.none (ap (λ (w : ℕ). size_of a.elements.dims.items * w) size ∙ none))
    (λ some words. c.take_array.ensures.some some (subst (λ (w : ℕ). 0 < w) (sym size) words)
    ∙ ap (λ (w : ℕ). with_words old a.elements.block (copied w (words_of old a.elements.block) (words_of old from)
    (take (fewer_of (size_of a.elements.dims.items) (length (words_of old from) / w)) (places a.elements))
    (progression (pos 0) (pos w) (fewer_of (size_of a.elements.dims.items) (length (words_of old from) / w))))) size)
