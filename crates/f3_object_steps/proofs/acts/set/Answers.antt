use Rattle.f3_data.specs.Values.{value_of}
use Rattle.f3_data.specs.References.{reference_of}
use Rattle.f3_object_steps.proofs.Running.{set_comes}
use Rattle.f3_object_steps.proofs.acts.set.Goals as goal

pub returns-in-Ok : goal.returns-in-Ok
returns-in-Ok c = λ here. set_comes (reference_of c.args.object) (value_of c.args.value) here c.args.store.now c.set-done.new.store c.in-Ok.ensures
