use Rattle.std.proofs.Common.{◌≡◌}
use Rattle.f3_meaning_whole.specs.Reference as m
use Rattle.f3_data.specs.Stores.{path_of}
use Rattle.f3_data.specs.Lent.{lent_of}
use Rattle.f3_located.proofs.pins.is_pinned.Given as goal

abbrev pub invariant-loop-left : goal.invariant-loop-left
invariant-loop-left l = m.is_pinned (path_of l.path) (lent_of l.left) ≡ m.is_pinned (path_of l.path) (lent_of l.lent)
