use Rattle.std.proofs.Common.{◌≡◌, ◌+◌, ◌≤◌, ◌++◌, drop, map}
use Rattle.f3_meaning_whole.specs.Exec.{associates}
use Rattle.f3_data.specs.References.{references_of}
use Rattle.f3_cells.specs.Cells.{association_of}
use Rattle.f3_call_steps.proofs.associates.add_objects.Given as goal

-- the objects of the first names are there
abbrev pub invariant-loop-selector : goal.invariant-loop-selector
invariant-loop-selector l = record {
  slots : l.slot ≤ l.initial.slot + l.selector-index;
  objects : references_of l.objects.items ++ associates (map association_of (drop l.selector-index l.selectors)) l.level l.slot l.unit
      ≡ references_of l.initial.objects.items ++ associates (map association_of l.selectors) l.level l.initial.slot l.unit;
}
