use Rattle.f3_heights.proofs.States.{states_are_of_runs}
use Rattle.f3_heights.proofs.states_are_of_runs.Goals as goal

pub returns : goal.returns
returns c = states_are_of_runs
