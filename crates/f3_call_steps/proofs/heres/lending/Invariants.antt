use Rattle.std.proofs.Common.{◌≡◌, ◌++◌, ◌≤◌, length, drop}
use Rattle.f3_data.specs.References.{references_of}
use Rattle.f3_data.specs.Lent.{lent_of}
use Rattle.f3_call_steps.proofs.heres.lending.Given as goal

abbrev pub invariant-loop-i : goal.invariant-loop-i
invariant-loop-i l = (l.i ≤ length l.objects) × (lent_of l.all ≡ references_of (drop l.i l.objects) ++ lent_of l.lent)

abbrev pub decreases-loop-i : goal.decreases-loop-i
decreases-loop-i l = l.i
