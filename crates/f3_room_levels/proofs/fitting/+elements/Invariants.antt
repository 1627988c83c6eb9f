use Rattle.std.proofs.Common.{length}
use Rattle.f3_room_levels.proofs.fitting.+elements.Given as goal

-- proposed from what the function passes where it calls itself
abbrev pub decreases-elements : goal.decreases-elements
decreases-elements l = length l.bounds.now
