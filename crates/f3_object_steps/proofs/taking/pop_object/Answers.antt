use Rattle.std.proofs.Common.{refl}
use Rattle.f3_data.specs.References.{reference_of}
use Rattle.f3_code.specs.State as s
use Rattle.f3_code.specs.Machine.{on_object}
use Rattle.f3_object_steps.proofs.Tops.{popped}
use Rattle.f3_object_steps.proofs.taking.pop_object.Goals as goal

pub returns : goal.returns
returns c = popped (λ x. s.Object (reference_of x)) reference_of on_object (λ x rest f. refl) c.pop_object.result _ _ c.pop_object.ensures
