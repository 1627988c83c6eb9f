use Rattle.std.proofs.Common.{◌≡◌, drop, map, vec_len}
use Rattle.f3_cells.specs.Cells.{passed_of}
use Rattle.f3_value_steps.proofs.Positions.{Fills}
use Rattle.f3_value_steps.proofs.structures.positions.Given as goal

abbrev pub invariant-loop-position : goal.invariant-loop-position
invariant-loop-position l = record {
  sized : vec_len l.table ≡ l.count;
  fills : Fills l.table.items (map passed_of l.passed) (map passed_of (drop l.position l.passed)) l.position;
}
