use Rattle.f3_room_frames.proofs.Entering.{activations_begin_with, activations_enter_with}
use Rattle.f3_room_frames.proofs.laws.activations_enter_with.Goals as goal

pub returns-clause-first : goal.returns-clause-first
returns-clause-first c = activations_begin_with

pub returns-clause-others : goal.returns-clause-others
returns-clause-others c = activations_enter_with
