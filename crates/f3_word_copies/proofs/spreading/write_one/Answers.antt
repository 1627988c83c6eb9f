use Rattle.std.proofs.Common.{◌∙◌, sym, ap, subst, ◌+◌, ◌≤◌, length, set, arith, rules, w64, FitsSigned}
use Rattle.std.specs.Prelude.{ℤ}
use Rattle.std.proofs.lemmas.Int.{to_z-of_z}
use Rattle.f3_live_blocks.specs.Blocks.{words_of, with_words}
use Rattle.f3_meaning_whole.specs.Shape.{shape_in}
use Rattle.f3_room_places.specs.Places.{shapes}
use Rattle.f3_room_levels.proofs.Widths.{object_many}
use Rattle.f3_objects.specs.Holds.{with_words_at}
use Rattle.f3_word_copies.specs.Spread.{IsSource, source_words}
use Rattle.f3_word_copies.specs.declared.spreading.Source.{Source}
use Rattle.f3_word_copies.proofs.Spreads.{one-word}
use Rattle.f3_word_copies.proofs.spreading.write_one.Goals as goal

pub returns-in-Word-clause-written : goal.returns-in-Word-clause-written
returns-in-Word-clause-written g c =
    let old = g.B.Blocks.blocks c.args.heap.now in
    let within : c.args.at + 1 ≤ length (words_of old c.args.block) = subst (λ (s : Source). c.args.at + length (source_words old s) ≤ length (words_of old c.args.block)) c.in-Word.is c.requires.within in
    let fits : FitsSigned w64 c.in-Word.word = search rules in
    let is = to_z-of_z w64 c.in-Word.word fits in
    c.write.ensures.written
    ∙ ap (λ (z : ℤ). with_words old c.args.block (set (words_of old c.args.block) c.args.at z)) is
    ∙ ap (with_words old c.args.block) (one-word (words_of old c.args.block) c.args.at c.in-Word.word (omega arith))
    ∙ ap (λ (s : Source). with_words old c.args.block (with_words_at (words_of old c.args.block) c.args.at (source_words old s))) (sym c.in-Word.is)

pub write_initial-requires-clause-within : goal.write_initial-requires-clause-within
write_initial-requires-clause-within g c =
    let old = g.B.Blocks.blocks c.args.heap.now in
    let s = shape_in (shapes c.in-Initial.types) c.in-Initial.of in
    let source = subst (IsSource old c.args.block) c.in-Initial.is c.requires.source in
    let within = subst (λ (k : Source). c.args.at + length (source_words old k) ≤ length (words_of old c.args.block)) c.in-Initial.is c.requires.within in
    let many = object_many s source.1 in
    omega arith
