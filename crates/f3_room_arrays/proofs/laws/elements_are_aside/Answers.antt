use Rattle.f3_room_arrays.proofs.Distinct.{elements_are_aside, sections_stay_aside}
use Rattle.f3_room_arrays.proofs.laws.elements_are_aside.Goals as goal

pub returns-clause-whole : goal.returns-clause-whole
returns-clause-whole c = elements_are_aside

pub returns-clause-sections : goal.returns-clause-sections
returns-clause-sections c = sections_stay_aside
