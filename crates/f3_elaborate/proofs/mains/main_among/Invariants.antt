use Rattle.std.proofs.Common.{◌≡◌, None, map, take}
use Rattle.f3_tree.specs.Tree.{unit_view}
use Rattle.f3_elaborate.specs.Inner.Units.{main_place}
use Rattle.f3_elaborate.proofs.mains.main_among.Given as goal

abbrev pub invariant-loop-number : goal.invariant-loop-number
invariant-loop-number l = main_place (take l.number (map unit_view l.list)) ≡ None
