use Rattle.std.proofs.Common.{◌≡◌, ◌≤◌, length, drop}
use Rattle.f3_code.specs.Lower.{final_work}
use Rattle.f3_code.specs.Code.{work_code}
use Rattle.f3_gen_values.specs.Emitted.{Emitted}
use Rattle.f3_gen_work.proofs.work.emit_finals.Given as goal

abbrev pub invariant-loop-i : goal.invariant-loop-i
invariant-loop-i l = record {
  within : l.i ≤ length l.finals;
  begun : l.behind ≡ length l.fn.code.items;
  emitted : Emitted l.fn.code.items l.code.items (work_code 0 l.place (final_work (drop l.i l.finals)));
}

abbrev pub decreases-loop-i : goal.decreases-loop-i
decreases-loop-i l = l.i
