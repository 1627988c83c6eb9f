use Rattle.f3_rooms.proofs.Aside.{other_variables_stand, other_parts_stand}
use Rattle.f3_rooms.proofs.ways.others_stand.Goals as goal

pub returns-clause-variables : goal.returns-clause-variables
returns-clause-variables c = other_variables_stand

pub returns-clause-parts : goal.returns-clause-parts
returns-clause-parts c = other_parts_stand
