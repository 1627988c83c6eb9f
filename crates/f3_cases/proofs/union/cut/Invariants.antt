use Rattle.std.specs.BTreeMap.{btree_map_len}
use Rattle.f3_cases.specs.Inner.Ranges.{end_of}
use Rattle.f3_cases.proofs.Numbers.{Thinned}
use Rattle.f3_cases.proofs.union.cut.Given as goal

abbrev pub invariant-loop-first : goal.invariant-loop-first
invariant-loop-first l = Thinned (end_of l.fn.ranges) (end_of l.ranges) l.low l.high

abbrev pub decreases-loop-first : goal.decreases-loop-first
decreases-loop-first l = btree_map_len l.ranges
