use Rattle.f3_room_places.proofs.bounds.+has_told.Given as goal

abbrev pub decreases-has_told : goal.decreases-has_told
decreases-has_told g l = l.rank
