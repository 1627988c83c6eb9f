use Rattle.f3_room_frames.proofs.Calling.{activations_leave, activations_leave_with_all}
use Rattle.f3_room_frames.proofs.laws.activations_leave.Goals as goal

pub returns-clause-bare : goal.returns-clause-bare
returns-clause-bare c = activations_leave

pub returns-clause-all : goal.returns-clause-all
returns-clause-all c = activations_leave_with_all
