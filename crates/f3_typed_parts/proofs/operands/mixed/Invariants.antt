use Rattle.std.proofs.Common.{◌≡◌, drop}
use Rattle.f3_kinds.specs.Operands.{mixed_rows}
use Rattle.f3_typed_parts.proofs.operands.mixed.Given as goal

abbrev pub invariant-loop-item : goal.invariant-loop-item
invariant-loop-item l = (l.first ≡ l.fn.first) × (mixed_rows l.data_type (drop l.item-index l.items) ≡ mixed_rows l.data_type l.items)
