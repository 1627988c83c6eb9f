use Rattle.std.proofs.Common.{◌≡◌, ◌&&◌, drop}
use Rattle.f3_kinds.specs.Calls.{are_given}
use Rattle.f3_references.proofs.constructors.are_given.Given as goal

abbrev pub invariant-loop-place : goal.invariant-loop-place
invariant-loop-place l = (l.right && are_given l.place (drop l.place l.components.entries) l.taken.keys) ≡ are_given 0 l.components.entries l.taken.keys
