use Rattle.std.proofs.Common.{◌≡◌, drop}
use Rattle.f3_nodes.specs.Levels.{may_lead_to}
use Rattle.f3_nodes.proofs.levels.may_lead_to.Given as goal

abbrev pub invariant-loop-target : goal.invariant-loop-target
invariant-loop-target l = may_lead_to l.levels l.from (drop l.target-index l.targets) ≡ may_lead_to l.levels l.from l.targets
