use Rattle.std.proofs.Common.{◌<◌, length, sym, ◌∙◌, arith}
use Rattle.f3_text.specs.Reader.{ahead}
use Rattle.f3_text.proofs.AlongLines.{later_feed, later_same, later_end, below_more, parts_at_line, parts_at_end, length_taken}
use Rattle.std.proofs.lemmas.Bool.{eq-eqb}
use Rattle.f3_text.proofs.lines.below.Goals as goal

pub returns-then-letter-eq10-clause-lines : goal.returns-then-letter-eq10-clause-lines
returns-then-letter-eq10-clause-lines c = later_same _ _ (sym c.loop-letter.invariant.below) ∙ later_feed _ _ _ c.in-Some.ensures.letters c.if-letter-eq10.true

pub returns-then-letter-eq10-clause-parts : goal.returns-then-letter-eq10-clause-parts
returns-then-letter-eq10-clause-parts c = parts_at_line _ (c.in-Some.ensures.column ∙ eq-eqb _ _ c.if-letter-eq10.true)

pub loop-letter-preserved : goal.loop-letter-preserved
loop-letter-preserved c =
    let shorter : length (ahead c.in-Some.behind) < length (ahead c.loop-letter.at) = length_taken _ _ _ c.in-Some.ensures.letters in
    record {
      below = below_more _ _ _ c.in-Some.ensures.letters c.if-letter-eq10.false ∙ c.loop-letter.invariant.below;
      within = omega arith;
      file = c.in-Some.ensures.file ∙ c.loop-letter.invariant.file;
    }

pub returns-clause-lines : goal.returns-clause-lines
returns-clause-lines c = later_same _ _ (sym c.loop-letter.invariant.below) ∙ later_end _ c.in_default.ensures

pub returns-clause-parts : goal.returns-clause-parts
returns-clause-parts c = parts_at_end _ c.in_default.ensures
