use Rattle.f3_room_pins.proofs.Levels.{levels_begin_unpinned, levels_end_unpinned}
use Rattle.f3_room_pins.proofs.laws.levels_keep_pins.Goals as goal

pub returns-clause-begin : goal.returns-clause-begin
returns-clause-begin c = levels_begin_unpinned

pub returns-clause-end : goal.returns-clause-end
returns-clause-end c = levels_end_unpinned
