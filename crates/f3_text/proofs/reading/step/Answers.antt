use Rattle.std.proofs.Common.{refl, sym, ◌∙◌, arith}
use Rattle.f3_text.proofs.AlongLines.{text_end}
use Rattle.f3_text.proofs.Going.{going_more, going_separated, mark_there, paired_same, same_going, fails_at}
use Rattle.std.proofs.lemmas.Result.{err_from_is_err_and}
use Rattle.f3_text.proofs.reading.step.Goals as goal

pub returns-then-ends_text : goal.returns-then-ends_text
returns-then-ends_text c = (text_end _ _ _ _ refl (sym c.if-ends_text.ensures), refl)

pub returns-then-separates : goal.returns-then-separates
returns-then-separates c = (record { same = going_separated _ _ _ _ _ (sym c.if-ends_text.ensures) (sym c.if-separates.ensures); kept = refl }, mark_there _ _ (sym c.if-separates.ensures))

pub returns-in_err-depth : goal.returns-in_err-depth
returns-in_err-depth c =
    let p = err_from_is_err_and c.from_residual-in_err-depth.result c.from_residual-in_err-depth.ensures.1 in
    rw (p.1, p.2) (fails_at _ _ _ _ _ _ c.in_err-depth.ensures (sym c.if-ends_text.ensures) (sym c.if-separates.ensures) (sym c.if-joins.ensures))

pub returns : goal.returns
returns c = record {
  same =
      going_more _ _ _ _ _ (sym c.if-ends_text.ensures) (sym c.if-separates.ensures) (sym c.if-joins.ensures) c.in_ok-depth.ensures.0 c.requires
      ∙ same_going _ _ _ _ _ _ _ c.in-Ok-add.ensures c.after.ensures c.in_ok-depth.ensures.1;
  paired = λ p. paired_same _ _ _ c.in-Ok-add.ensures p;
  within = omega arith;
  file = refl;
}
