use Rattle.std.proofs.Common.{refl}
use Rattle.f3_data.specs.Values.{value_of}
use Rattle.f3_code.specs.State as s
use Rattle.f3_code.specs.Machine.{on_datum}
use Rattle.f3_object_steps.proofs.Tops.{shown_or_none}
use Rattle.f3_object_steps.proofs.taking.datum_at.Goals as goal

pub returns : goal.returns
returns c = shown_or_none (λ x. s.Datum (value_of x.now)) (λ x. value_of x.now) on_datum (λ x rest f. refl) c.datum_at.result c.args.stack.now.items c.args.depth c.datum_at.ensures
