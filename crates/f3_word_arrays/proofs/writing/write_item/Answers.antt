use Rattle.std.proofs.Common.{◌∙◌, sym, ap, subst, ◌+◌, ◌≤◌, length, set, arith, rules, w64, FitsSigned}
use Rattle.std.specs.Prelude.{ℤ}
use Rattle.std.proofs.lemmas.Int.{to_z-of_z}
use Rattle.f3_live_blocks.specs.Blocks.{words_of, with_words}
use Rattle.f3_objects.specs.Holds.{with_words_at}
use Rattle.f3_word_cells.specs.declared.cell.Datum.{Datum}
use Rattle.f3_word_arrays.specs.Items.{datum_words}
use Rattle.f3_word_arrays.proofs.Words.{one-word}
use Rattle.f3_word_arrays.proofs.writing.write_item.Goals as goal

pub returns-in-Scalar-clause-written : goal.returns-in-Scalar-clause-written
returns-in-Scalar-clause-written g c =
    let old = g.B.Blocks.blocks c.args.heap.now in
    let within : c.args.at + 1 ≤ length (words_of old c.args.block) = subst (λ (d : Datum). c.args.at + length (datum_words old d) ≤ length (words_of old c.args.block)) c.in-Scalar.is c.requires.within in
    let fits : FitsSigned w64 c.word_of.result = search rules in
    c.write.ensures.written
    ∙ ap (λ (z : ℤ). with_words old c.args.block (set (words_of old c.args.block) c.args.at z)) (to_z-of_z w64 c.word_of.result fits ∙ c.word_of.ensures)
    ∙ ap (with_words old c.args.block) (one-word (words_of old c.args.block) c.args.at _ (omega arith))
    ∙ ap (λ (d : Datum). with_words old c.args.block (with_words_at (words_of old c.args.block) c.args.at (datum_words old d))) (sym c.in-Scalar.is)
