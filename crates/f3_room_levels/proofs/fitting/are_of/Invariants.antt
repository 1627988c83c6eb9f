use Rattle.std.proofs.Common.{drop}
use Rattle.f3_meaning_whole.specs.Shape.{shape_in}
use Rattle.f3_room_places.specs.Places.{shapes}
use Rattle.f3_room_levels.proofs.Fits.{AreLeftOf}
use Rattle.f3_room_levels.proofs.fitting.are_of.Given as goal

abbrev pub invariant-loop-constant : goal.invariant-loop-constant
invariant-loop-constant l = AreLeftOf (shape_in (shapes l.types) l.of) (drop l.constant-index l.constants) l.constants
