use Rattle.std.proofs.Common.{◌≡◌}
use Rattle.f3_names.specs.Tables.{unit_at}
use Rattle.f3_names.proofs.table.Names.unit.Given as goal

abbrev pub invariant-loop-host : goal.invariant-loop-host
invariant-loop-host l = unit_at l.self l.number ≡ unit_at l.self l.fn.scope.number

abbrev pub decreases-loop-host : goal.decreases-loop-host
decreases-loop-host l = l.number
