use Rattle.f3_room_account.proofs.Keeping.{levels_begin_with_all, levels_end_with_all}
use Rattle.f3_room_account.proofs.laws.levels_keep_all.Goals as goal

pub returns-clause-begin : goal.returns-clause-begin
returns-clause-begin c = levels_begin_with_all

pub returns-clause-end : goal.returns-clause-end
returns-clause-end c = levels_end_with_all
