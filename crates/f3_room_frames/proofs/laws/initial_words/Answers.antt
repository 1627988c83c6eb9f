use Rattle.f3_room_frames.proofs.InitialLaws.{initial_words_are, words_many, zeros_are_initial}
use Rattle.f3_room_frames.proofs.laws.initial_words.Goals as goal

pub returns-clause-given : goal.returns-clause-given
returns-clause-given c = initial_words_are

pub returns-clause-enough : goal.returns-clause-enough
returns-clause-enough c = words_many

pub returns-clause-bare : goal.returns-clause-bare
returns-clause-bare c = zeros_are_initial
