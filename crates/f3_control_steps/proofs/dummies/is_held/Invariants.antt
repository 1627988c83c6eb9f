use Rattle.std.proofs.Common.{◌≡◌, drop, map}
use Rattle.f3_meaning_whole.specs.Act.{passed_at}
use Rattle.f3_cells.specs.Cells.{passed_of}
use Rattle.f3_control_steps.proofs.dummies.is_held.Given as goal

-- no argument so far has the number
abbrev pub invariant-loop-argument : goal.invariant-loop-argument
invariant-loop-argument l = passed_at l.number (map passed_of l.passed) ≡ passed_at l.number (map passed_of (drop l.argument-index l.passed))
