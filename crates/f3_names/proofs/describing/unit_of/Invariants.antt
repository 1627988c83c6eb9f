use Rattle.std.proofs.Common.{◌≡◌, map}
use Rattle.f3_scopes.specs.Outlines.{scope_view}
use Rattle.f3_names.specs.Holders.{unit_of}
use Rattle.f3_names.proofs.describing.unit_of.Given as goal

abbrev pub invariant-loop-host : goal.invariant-loop-host
invariant-loop-host l = unit_of (map scope_view l.outlines) l.unit ≡ unit_of (map scope_view l.outlines) l.number

abbrev pub decreases-loop-host : goal.decreases-loop-host
decreases-loop-host l = l.unit
