use Rattle.std.proofs.Common.{length, sym, ap, ◌∙◌, arith}
use Rattle.std.proofs.lemmas.Bool.{eqb-true, eqb-false}
use Rattle.std.proofs.lemmas.List.{nil_from_length}
use Rattle.f3_text.proofs.AlongLines.{lines_text, lines_comment, lines_nothing, later_same, nothing_ahead, something_ahead}
use Rattle.f3_text.proofs.lines.text_line.Goals as goal

pub returns-in-Some : goal.returns-in-Some
returns-in-Some c = record {
  lines = sym c.loop-start.invariant.lines ∙ lines_text _ c.in-Some.ensures.is_text;
  first = c.in-Some.ensures.first;
  later = later_same _ _ c.in-Some.ensures.below;
  start_within = c.loop-start.invariant.within;
  behind_within = let a = c.in-Some.ensures.within in omega arith;
  start_file = c.loop-start.invariant.file;
  behind_file = c.in-Some.ensures.file ∙ c.loop-start.invariant.file;
}

pub loop-start-smaller : goal.loop-start-smaller
loop-start-smaller c = c.below-start.ensures.shorter (something_ahead _ (λ e. eqb-false (length c.loop-start.start.rest.now) 0 (sym c.loop-start-test.ensures) (ap length e)))

pub loop-start-preserved : goal.loop-start-preserved
loop-start-preserved c = record {
  lines = sym c.below-start.ensures.lines ∙ sym (lines_comment _ c.in_default.ensures) ∙ c.loop-start.invariant.lines;
  within = let a = c.below-start.ensures.shorter (something_ahead _ (λ e. eqb-false (length c.loop-start.start.rest.now) 0 (sym c.loop-start-test.ensures) (ap length e))) in omega arith;
  file = c.below-start.ensures.file ∙ c.loop-start.invariant.file;
}

pub returns : goal.returns
returns c = sym c.loop-start.invariant.lines ∙ lines_nothing _ (nothing_ahead _ (nil_from_length c.loop-start.start.rest.now (eqb-true (length c.loop-start.start.rest.now) 0 (sym c.loop-start-test.ensures))))
