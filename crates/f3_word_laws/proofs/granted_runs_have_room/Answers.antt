use Rattle.f3_word_laws.proofs.FairLines.{granted_runs_have_room}
use Rattle.f3_word_laws.proofs.granted_runs_have_room.Goals as goal

pub returns : goal.returns
returns c = granted_runs_have_room
