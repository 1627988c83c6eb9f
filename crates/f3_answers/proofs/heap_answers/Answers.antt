use Rattle.f3_answers.proofs.Answering as answering
use Rattle.f3_answers.proofs.heap_answers.Goals as goal

pub returns : goal.returns
returns c = answering.heap_answers
