use Rattle.std.proofs.Common.{◌∙◌}
use Rattle.f3_code.specs.Machine.{on_datum}
use Rattle.f3_data.specs.References.{reference_of}
use Rattle.f3_object_steps.proofs.acts.pop_assigned.Goals as goal

pub returns-in_default-pop_datum : goal.returns-in_default-pop_datum
returns-in_default-pop_datum c = λ p f.
    c.in-Some.ensures p (λ r st. on_datum st (λ x st. f r x st)) ∙ c.in_default-pop_datum.ensures p (λ x st. f (reference_of c.in-Some.object) x st)

pub returns : goal.returns
returns c = λ p f.
    c.in-Some.ensures p (λ r st. on_datum st (λ x st. f r x st)) ∙ c.in-Some-pop_datum.ensures p (λ x st. f (reference_of c.in-Some.object) x st)
