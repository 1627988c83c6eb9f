use Rattle.f3_data.specs.References.{reference_of}
use Rattle.f3_object_steps.proofs.Running.{read_comes}
use Rattle.f3_object_steps.proofs.acts.read.Goals as goal

pub returns-in-Ok : goal.returns-in-Ok
returns-in-Ok c = λ here. read_comes (reference_of c.args.object) here c.args.store.now _ c.in-Ok.ensures
