use Rattle.std.proofs.Common.{◌≡◌, ◌++◌, drop}
use Rattle.f3_object_steps.specs.Selections.{kept, row_of}
use Rattle.f3_object_steps.proofs.places.add_row.Given as goal

abbrev pub invariant-loop-offset : goal.invariant-loop-offset
invariant-loop-offset l = l.places.items ++ kept l.limit (row_of (drop l.offset-index l.offsets) l.extent l.row) ≡ l.initial.places.items ++ kept l.limit (row_of l.offsets l.extent l.row)
