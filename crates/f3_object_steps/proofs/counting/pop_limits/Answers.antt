use Rattle.std.proofs.Common.{◌∙◌}
use Rattle.f3_code.specs.Machine.{on_datum}
use Rattle.f3_data.specs.Values.{value_of}
use Rattle.f3_object_steps.proofs.counting.pop_limits.Goals as goal

pub returns-in_default : goal.returns-in_default
returns-in_default c = λ p f. c.in_default.ensures p (λ step st. on_datum st (λ last st. on_datum st (λ first st. f step last first st)))

pub returns-in_default-pop_datum : goal.returns-in_default-pop_datum
returns-in_default-pop_datum c = λ p f. c.in-Some.ensures p (λ step st. on_datum st (λ last st. on_datum st (λ first st. f step last first st)))
    ∙ c.in_default-pop_datum.ensures p (λ last st. on_datum st (λ first st. f (value_of c.in-Some.step) last first st))

pub returns-in_default-pop_datum-2 : goal.returns-in_default-pop_datum-2
returns-in_default-pop_datum-2 c = λ p f. c.in-Some.ensures p (λ step st. on_datum st (λ last st. on_datum st (λ first st. f step last first st)))
    ∙ c.in-Some-pop_datum.ensures p (λ last st. on_datum st (λ first st. f (value_of c.in-Some.step) last first st))
    ∙ c.in_default-pop_datum-2.ensures p (λ first st. f (value_of c.in-Some.step) (value_of c.in-Some-pop_datum.last) first st)

pub returns : goal.returns
returns c = λ p f. c.in-Some.ensures p (λ step st. on_datum st (λ last st. on_datum st (λ first st. f step last first st)))
    ∙ c.in-Some-pop_datum.ensures p (λ last st. on_datum st (λ first st. f (value_of c.in-Some.step) last first st))
    ∙ c.in-Some-pop_datum-2.ensures p (λ first st. f (value_of c.in-Some.step) (value_of c.in-Some-pop_datum.last) first st)
