use Rattle.f3_rooms.proofs.Levels.{levels_begin, levels_end}
use Rattle.f3_rooms.proofs.laws.levels_begin_and_end.Goals as goal

pub returns-clause-begin : goal.returns-clause-begin
returns-clause-begin c = levels_begin

pub returns-clause-end : goal.returns-clause-end
returns-clause-end c = levels_end
