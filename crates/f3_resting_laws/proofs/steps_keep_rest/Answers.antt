use Rattle.f3_resting_laws.proofs.Resting.{heap_steps_keep_rest, lines_keep_rest, steps_keep_rest}
use Rattle.f3_resting_laws.proofs.steps_keep_rest.Goals as goal

pub returns-clause-lines : goal.returns-clause-lines
returns-clause-lines c = lines_keep_rest

pub returns-clause-steps : goal.returns-clause-steps
returns-clause-steps c = steps_keep_rest

pub returns-clause-heap_steps : goal.returns-clause-heap_steps
returns-clause-heap_steps c = heap_steps_keep_rest
