use Rattle.f3_granted_laws.proofs.Following.{start_is_of_the_run, states_follow, told_states_follow}
use Rattle.f3_granted_laws.proofs.states_are_of_the_run.Goals as goal

pub returns-clause-start : goal.returns-clause-start
returns-clause-start c = start_is_of_the_run

pub returns-clause-states : goal.returns-clause-states
returns-clause-states c = states_follow

pub returns-clause-told : goal.returns-clause-told
returns-clause-told c = told_states_follow
