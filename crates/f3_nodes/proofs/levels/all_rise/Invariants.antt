use Rattle.std.proofs.Common.{◌≡◌, drop}
use Rattle.f3_nodes.specs.Levels.{all_rise}
use Rattle.f3_nodes.proofs.levels.all_rise.Given as goal

abbrev pub invariant-loop-node : goal.invariant-loop-node
invariant-loop-node l = all_rise l.levels l.node (drop l.node l.uses) ≡ all_rise l.levels 0 l.uses
