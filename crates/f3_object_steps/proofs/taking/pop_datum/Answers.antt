use Rattle.std.proofs.Common.{refl}
use Rattle.f3_data.specs.Values.{value_of}
use Rattle.f3_code.specs.State as s
use Rattle.f3_code.specs.Machine.{on_datum}
use Rattle.f3_object_steps.proofs.Tops.{popped}
use Rattle.f3_object_steps.proofs.taking.pop_datum.Goals as goal

pub returns : goal.returns
returns c = popped (λ x. s.Datum (value_of x)) value_of on_datum (λ x rest f. refl) c.pop_datum.result _ _ c.pop_datum.ensures
