use Rattle.f3_objects_tests.proofs.Tall.{IsTower}
use Rattle.f3_objects_tests.proofs.towers.tower.Given as goal

-- the pieces so far are those of a tower
abbrev pub invariant-loop-below : goal.invariant-loop-below
invariant-loop-below l = IsTower l.pieces.items l.below
