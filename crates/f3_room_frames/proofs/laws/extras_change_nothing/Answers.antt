use Rattle.f3_room_frames.proofs.Behind.{extras_change_nothing, own_extras_change_nothing, kept_blocks_keep}
use Rattle.f3_room_frames.proofs.laws.extras_change_nothing.Goals as goal

pub returns-clause-every : goal.returns-clause-every
returns-clause-every c = extras_change_nothing

pub returns-clause-own : goal.returns-clause-own
returns-clause-own c = own_extras_change_nothing

pub returns-clause-others : goal.returns-clause-others
returns-clause-others c = kept_blocks_keep
