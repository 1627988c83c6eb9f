use Rattle.std.proofs.Common.{refl}
use Rattle.f3_data.specs.References.{reference_of}
use Rattle.f3_code.specs.State as s
use Rattle.f3_code.specs.Machine.{on_object}
use Rattle.f3_object_steps.proofs.Tops.{shown_or_none}
use Rattle.f3_object_steps.proofs.taking.object_at.Goals as goal

pub returns : goal.returns
returns c = shown_or_none (λ x. s.Object (reference_of x.now)) (λ x. reference_of x.now) on_object (λ x rest f. refl) c.object_at.result c.args.stack.now.items c.args.depth c.object_at.ensures
