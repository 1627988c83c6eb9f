use Rattle.f3_word_laws.proofs.Telling.{objects_are_there}
use Rattle.f3_word_laws.proofs.objects_are_there.Goals as goal

pub returns : goal.returns
returns c = objects_are_there
