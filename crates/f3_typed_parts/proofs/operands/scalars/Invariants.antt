use Rattle.std.proofs.Common.{◌≡◌, drop}
use Rattle.std.specs.List.{flat_map}
use Rattle.f3_kinds.specs.Rows.{scalar_rows}
use Rattle.f3_typed_parts.specs.Noted.{noted}
use Rattle.f3_typed_parts.proofs.operands.scalars.Given as goal

abbrev pub invariant-loop-other : goal.invariant-loop-other
invariant-loop-other l = noted l.first (flat_map (scalar_rows l.wanted) (drop l.other-index l.others)) ≡ noted l.fn.first (flat_map (scalar_rows l.wanted) l.others)
