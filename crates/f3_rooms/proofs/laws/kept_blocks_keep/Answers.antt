use Rattle.f3_rooms.proofs.Keeping.{kept_blocks_keep}
use Rattle.f3_rooms.proofs.Behind.{extras_change_nothing}
use Rattle.f3_rooms.proofs.laws.kept_blocks_keep.Goals as goal

pub returns-clause-blocks : goal.returns-clause-blocks
returns-clause-blocks c = kept_blocks_keep

pub returns-clause-extras : goal.returns-clause-extras
returns-clause-extras c = extras_change_nothing
