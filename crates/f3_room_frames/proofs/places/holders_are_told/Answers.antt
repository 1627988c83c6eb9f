use Rattle.f3_room_frames.proofs.Holders.{holders_are_told, holders_are_found}
use Rattle.f3_room_frames.proofs.places.holders_are_told.Goals as goal

pub returns-clause-told : goal.returns-clause-told
returns-clause-told c = holders_are_told

pub returns-clause-found : goal.returns-clause-found
returns-clause-found c = holders_are_found
