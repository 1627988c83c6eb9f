use Rattle.std.proofs.Common.{◌≡◌, take, map}
use Rattle.f3_meaning_whole.specs.Exec.{held_by}
use Rattle.f3_data.specs.Values.{values_of}
use Rattle.f3_cells.specs.Cells.{association_of}
use Rattle.f3_call_steps.proofs.associates.held_by.Given as goal

abbrev pub invariant-loop-selector : goal.invariant-loop-selector
invariant-loop-selector l = values_of l.values.items ≡ held_by (map association_of (take l.selector-index l.selectors))
