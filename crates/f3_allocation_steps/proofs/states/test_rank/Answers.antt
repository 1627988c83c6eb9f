use Rattle.std.proofs.Common.{[], refl, ◌∙◌}
use Rattle.f3_data.specs.Values.{value_of}
use Rattle.f3_cells.proofs.Steps.{is_stuck, moved_on}
use Rattle.f3_allocation_steps.proofs.Acting.{at_object, at_datum, passed, failed, ranked, unranked}
use Rattle.f3_allocation_steps.proofs.states.test_rank.Goals as goal

pub returns-in_default : goal.returns-in_default
returns-in_default c = λ p limit g code v here. is_stuck (c.in_default.ensures p _)

pub returns-in_default-datum_at : goal.returns-in_default-datum_at
returns-in_default-datum_at c = λ p limit g code v here. is_stuck (at_object _ (c.in-Some.ensures p) ∙ c.in_default-datum_at.ensures p _)

pub returns-then-rank-spans_of : goal.returns-then-rank-spans_of
returns-then-rank-spans_of c = λ p limit g code v here.
    moved_on p c.advance.ensures (at_object _ (c.in-Some.ensures p) ∙ at_datum _ (c.in-Some-datum_at.ensures p)
    ∙ passed _ _ here _ _ (ranked c.args.rank c.spans_of.result.now (value_of c.in-Some-datum_at.value.now) c.if-rank-spans_of.true c.spans_of.ensures))

pub returns-else-rank-spans_of : goal.returns-else-rank-spans_of
returns-else-rank-spans_of c = λ p limit g code v here. (
  [],
  at_object _ (c.in-Some.ensures p) ∙ at_datum _ (c.in-Some-datum_at.ensures p)
      ∙ failed _ _ here _ _ (unranked c.args.rank c.spans_of.result.now (value_of c.in-Some-datum_at.value.now) c.if-rank-spans_of.false c.spans_of.ensures),
  refl,
)
