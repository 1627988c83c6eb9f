use Rattle.f3_rooms.proofs.Whole.{statics_stand, locals_stand}
use Rattle.f3_rooms.proofs.ways.variables_stand.Goals as goal

pub returns-clause-statics : goal.returns-clause-statics
returns-clause-statics c = statics_stand

pub returns-clause-locals : goal.returns-clause-locals
returns-clause-locals c = locals_stand
