use Rattle.f3_room_arrays.proofs.Sections.{sections_are_told, numbers_are_places}
use Rattle.f3_room_arrays.proofs.laws.sections_are_told.Goals as goal

pub returns-clause-told : goal.returns-clause-told
returns-clause-told c = sections_are_told

pub returns-clause-numbers : goal.returns-clause-numbers
returns-clause-numbers c = numbers_are_places
