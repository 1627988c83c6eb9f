use Rattle.f3_room_frames.proofs.Calling.{activations_begin, activations_enter}
use Rattle.f3_room_frames.proofs.laws.activations_enter.Goals as goal

pub returns-clause-first : goal.returns-clause-first
returns-clause-first c = activations_begin

pub returns-clause-others : goal.returns-clause-others
returns-clause-others c = activations_enter
