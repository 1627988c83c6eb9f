use Rattle.std.proofs.Common.{◌≡◌, ◌≤◌, drop, map, vec_len}
use Rattle.f3_cells.specs.Cells.{passed_of}
use Rattle.f3_call_steps.proofs.Standing.{Fills}
use Rattle.f3_call_steps.proofs.arguments.stands.Given as goal

abbrev pub invariant-loop-position : goal.invariant-loop-position
invariant-loop-position l = record {
  sized : vec_len l.table ≡ l.count;
  slots : l.slot ≤ l.position;
  fills : Fills l.table.items (map passed_of l.arguments) (map passed_of (drop l.position l.arguments)) l.position l.slot;
}
