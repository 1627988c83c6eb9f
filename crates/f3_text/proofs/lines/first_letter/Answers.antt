use Rattle.std.proofs.Common.{◌<◌, length, sym, ◌∙◌, arith}
use Rattle.f3_text.specs.Reader.{ahead}
use Rattle.f3_text.proofs.AlongLines.{comment_end, comment_nothing, comment_more, no_comment, first_more, first_here, below_more, not_feed, length_taken}
use Rattle.f3_text.specs.declared.letter.Quoting.TheVariants.{Outside}
use Rattle.f3_text.proofs.lines.first_letter.Goals as goal

pub returns-then-ends_text : goal.returns-then-ends_text
returns-then-ends_text c = sym c.loop-letter.invariant.comment ∙ comment_end _ _ _ c.in-Some.ensures.letters (sym c.if-ends_text.ensures)

pub returns-then-not-is_blank : goal.returns-then-not-is_blank
returns-then-not-is_blank c =
    let shorter : length (ahead c.in-Some.behind) < length (ahead c.loop-letter.at) = length_taken _ _ _ c.in-Some.ensures.letters in
    record {
      is_text = sym c.loop-letter.invariant.comment ∙ no_comment _ _ _ c.in-Some.ensures.letters (sym c.if-ends_text.ensures) (sym c.if-not-is_blank.ensures);
      first = sym c.loop-letter.invariant.first ∙ first_here _ _ _ c.in-Some.ensures.letters (sym c.if-ends_text.ensures) (sym c.if-not-is_blank.ensures);
      below = below_more _ _ _ c.in-Some.ensures.letters (not_feed Outside _ _ (sym c.if-ends_text.ensures)) ∙ c.loop-letter.invariant.below;
      within = omega arith;
      file = c.in-Some.ensures.file ∙ c.loop-letter.invariant.file;
    }

pub loop-letter-preserved : goal.loop-letter-preserved
loop-letter-preserved c =
    let shorter : length (ahead c.in-Some.behind) < length (ahead c.loop-letter.at) = length_taken _ _ _ c.in-Some.ensures.letters in
    record {
      comment = comment_more _ _ _ c.in-Some.ensures.letters (sym c.if-ends_text.ensures) (sym c.if-not-is_blank.ensures) ∙ c.loop-letter.invariant.comment;
      first = first_more _ _ _ c.in-Some.ensures.letters (sym c.if-ends_text.ensures) (sym c.if-not-is_blank.ensures) ∙ c.loop-letter.invariant.first;
      below = below_more _ _ _ c.in-Some.ensures.letters (not_feed Outside _ _ (sym c.if-ends_text.ensures)) ∙ c.loop-letter.invariant.below;
      within = omega arith;
      file = c.in-Some.ensures.file ∙ c.loop-letter.invariant.file;
    }

pub returns : goal.returns
returns c = sym c.loop-letter.invariant.comment ∙ comment_nothing _ c.in_default.ensures
