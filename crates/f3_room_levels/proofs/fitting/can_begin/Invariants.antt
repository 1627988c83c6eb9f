use Rattle.std.proofs.Common.{drop}
use Rattle.f3_room_places.specs.Places.{shapes}
use Rattle.f3_room_levels.proofs.Fits.{AllLeft}
use Rattle.f3_room_levels.proofs.fitting.can_begin.Given as goal

abbrev pub invariant-loop-variable : goal.invariant-loop-variable
invariant-loop-variable l = AllLeft (shapes l.types) (drop l.variable-index l.declared) l.declared
