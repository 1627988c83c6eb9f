use Rattle.f3_room_arrays.proofs.Counting.{elements_are_counted, sections_are_no_longer}
use Rattle.f3_room_arrays.proofs.laws.elements_are_counted.Goals as goal

pub returns-clause-elements : goal.returns-clause-elements
returns-clause-elements c = elements_are_counted

pub returns-clause-sections : goal.returns-clause-sections
returns-clause-sections c = sections_are_no_longer
