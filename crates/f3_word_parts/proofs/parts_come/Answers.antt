use Rattle.f3_word_parts.proofs.Parts.{parts_come_on, parts_are_of_runs}
use Rattle.f3_word_parts.proofs.parts_come.Goals as goal

pub returns-clause-on : goal.returns-clause-on
returns-clause-on c = parts_come_on

pub returns-clause-states : goal.returns-clause-states
returns-clause-states c = parts_are_of_runs
