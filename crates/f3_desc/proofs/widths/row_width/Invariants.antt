use Rattle.std.proofs.Common.{◌≡◌, map, List, ◌+◌, drop}
use Rattle.f3_desc.specs.Shape.{Shape, shape_at, row, width}
use Rattle.f3_desc.proofs.widths.row_width.Given as goal

-- the total and the words of the parts to come are those of all parts
abbrev pub invariant-loop-part : goal.invariant-loop-part
invariant-loop-part l = (before : List Shape) → l.widths ≡ map width before → l.total + width (row (map (shape_at before) (drop l.part-index l.parts))) ≡ width (row (map (shape_at before) l.parts))
