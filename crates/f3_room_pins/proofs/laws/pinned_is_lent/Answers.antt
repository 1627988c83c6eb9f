use Rattle.f3_room_pins.proofs.Counting.{pinned_is_lent, all_are_free}
use Rattle.f3_room_pins.proofs.Vacant.{vacant_is_free}
use Rattle.f3_room_pins.proofs.laws.pinned_is_lent.Goals as goal

pub returns-clause-exact : goal.returns-clause-exact
returns-clause-exact c = pinned_is_lent

pub returns-clause-beneath : goal.returns-clause-beneath
returns-clause-beneath c = all_are_free

pub returns-clause-vacant : goal.returns-clause-vacant
returns-clause-vacant c = vacant_is_free
