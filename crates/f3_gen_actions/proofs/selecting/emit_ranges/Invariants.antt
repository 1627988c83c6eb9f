use Rattle.std.proofs.Common.{◌≡◌, ◌≤◌, length, drop}
use Rattle.f3_code.specs.Code.{ranges_code}
use Rattle.f3_gen_values.specs.Emitted.{Emitted}
use Rattle.f3_gen_actions.proofs.selecting.emit_ranges.Given as goal

abbrev pub invariant-loop-i : goal.invariant-loop-i
invariant-loop-i l = record {
  within : l.i ≤ length l.ranges;
  begun : l.behind ≡ length l.fn.code.items;
  emitted : Emitted l.fn.code.items l.code.items (ranges_code l.place (drop l.i l.ranges));
}

abbrev pub decreases-loop-i : goal.decreases-loop-i
decreases-loop-i l = l.i
