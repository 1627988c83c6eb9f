use Rattle.f3_data.specs.Values.{value_of}
use Rattle.f3_data.specs.References.{reference_of}
use Rattle.f3_object_steps.proofs.Running.{filled_by, taken_by, unfilled, untaken}
use Rattle.f3_object_steps.proofs.acts.assign.Goals as goal

pub returns-in-Ok-clause-fill : goal.returns-in-Ok-clause-fill
returns-in-Ok-clause-fill c = filled_by c.args.of (reference_of c.args.object) (value_of c.args.value) c.in-Ok.value c.set.result _ _ c.in-Ok.ensures c.set.ensures

pub returns-in-Ok-clause-take : goal.returns-in-Ok-clause-take
returns-in-Ok-clause-take c = taken_by c.args.of (reference_of c.args.object) (value_of c.args.value) c.in-Ok.value c.set.result _ _ c.in-Ok.ensures c.set.ensures

pub returns-in-Err-clause-fill : goal.returns-in-Err-clause-fill
returns-in-Err-clause-fill c = λ here. unfilled c.args.of (reference_of c.args.object) (value_of c.args.value) c.in-Err.error here c.args.store.now (c.in-Err.ensures here.place)

pub returns-in-Err-clause-take : goal.returns-in-Err-clause-take
returns-in-Err-clause-take c = λ here. untaken c.args.of (reference_of c.args.object) (value_of c.args.value) c.in-Err.error here c.args.store.now (c.in-Err.ensures here.place)
