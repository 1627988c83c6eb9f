use Rattle.std.proofs.Common.{◌≡◌, drop}
use Rattle.f3_kinds.specs.Operands.{widest}
use Rattle.f3_typed_parts.proofs.operands.widest.Given as goal

abbrev pub invariant-loop-other : goal.invariant-loop-other
invariant-loop-other l = widest l.widest (drop l.other-index l.others) ≡ widest l.fn.kind l.others
