use Rattle.std.proofs.Common.{◌∙◌}
use Rattle.f3_data.specs.References.{reference_of}
use Rattle.f3_code.specs.Machine.{on_object}
use Rattle.f3_object_steps.proofs.locating.pop_part.Goals as goal

pub returns-in_default-pop_object : goal.returns-in_default-pop_object
returns-in_default-pop_object c = λ p f. c.in-Some.ensures p (λ q st. on_object st (λ r st. f q r st)) ∙ c.in_default-pop_object.ensures p (λ r st. f (reference_of c.in-Some.part) r st)

pub returns : goal.returns
returns c = λ p f. c.in-Some.ensures p (λ q st. on_object st (λ r st. f q r st)) ∙ c.in-Some-pop_object.ensures p (λ r st. f (reference_of c.in-Some.part) r st)
