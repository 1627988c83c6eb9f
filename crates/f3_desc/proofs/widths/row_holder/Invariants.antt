use Rattle.std.proofs.Common.{◌≡◌, map, List, drop}
use Rattle.f3_desc.specs.Shape.{Shape, shape_at, row, has_holder}
use Rattle.f3_desc.proofs.widths.row_holder.Given as goal

-- no part so far tells of an allocation
abbrev pub invariant-loop-part : goal.invariant-loop-part
invariant-loop-part l = (before : List Shape) → l.holders ≡ map has_holder before → has_holder (row (map (shape_at before) l.parts)) ≡ has_holder (row (map (shape_at before) (drop l.part-index l.parts)))
