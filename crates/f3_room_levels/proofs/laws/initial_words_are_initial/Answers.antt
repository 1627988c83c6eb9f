use Rattle.f3_room_levels.proofs.Initials.{initial_words_are_enough, initial_words_are_initial}
use Rattle.f3_room_levels.proofs.laws.initial_words_are_initial.Goals as goal

pub returns-clause-enough : goal.returns-clause-enough
returns-clause-enough c = initial_words_are_enough

pub returns-clause-initial : goal.returns-clause-initial
returns-clause-initial c = initial_words_are_initial
