use Rattle.f3_room_account.proofs.Keeping.{parts_keep_all, moves_keep_all}
use Rattle.f3_room_account.proofs.laws.changes_keep_all.Goals as goal

pub returns-clause-parts : goal.returns-clause-parts
returns-clause-parts c = parts_keep_all

pub returns-clause-moves : goal.returns-clause-moves
returns-clause-moves c = moves_keep_all
