use Rattle.std.proofs.Common.{◌≡◌, ◌≤◌, drop, map}
use Rattle.f3_cells.specs.Cells.{passed_of}
use Rattle.f3_call_steps.specs.Inner.Standing.{stand_of}
use Rattle.f3_call_steps.proofs.arguments.find_stand.Given as goal

abbrev pub invariant-loop-position : goal.invariant-loop-position
invariant-loop-position l = record {
  slots : l.held ≤ l.position;
  rest : stand_of l.number (map passed_of (drop l.position l.arguments)) l.position l.held ≡ stand_of l.number (map passed_of l.arguments) 0 0;
}
