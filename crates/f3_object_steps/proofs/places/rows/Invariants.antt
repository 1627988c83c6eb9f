use Rattle.std.proofs.Common.{◌≡◌, ◌++◌, drop}
use Rattle.std.specs.List.{flat_map}
use Rattle.f3_object_steps.specs.Selections.{kept, row_of}
use Rattle.f3_object_steps.proofs.places.rows.Given as goal

abbrev pub invariant-loop-row : goal.invariant-loop-row
invariant-loop-row l = l.places.items ++ kept l.limit (flat_map (row_of l.offsets l.extent) (drop l.row-index l.rows)) ≡ kept l.limit (flat_map (row_of l.offsets l.extent) l.rows)
