use Rattle.std.proofs.Common.{◌≡◌, map, take}
use Rattle.f3_meaning_whole.specs.Shape.{shapes_of}
use Rattle.f3_meaning_whole.specs.Destroy.{is_destroyed}
use Rattle.f3_gen_work.proofs.types.Types.of.Given as goal

abbrev pub invariant-loop-one : goal.invariant-loop-one
invariant-loop-one l = l.destroyed.items ≡ map (is_destroyed l.items) (shapes_of (take l.one-index l.items))
