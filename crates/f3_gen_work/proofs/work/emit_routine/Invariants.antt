use Rattle.std.proofs.Common.{◌≤◌, length, drop, None}
use Rattle.f3_code.specs.Lower.{routine_of}
use Rattle.f3_code.specs.Code.{work_code}
use Rattle.f3_gen_values.specs.Emitted.{Emitted}
use Rattle.f3_gen_work.proofs.work.emit_routine.Given as goal

abbrev pub invariant-loop-i : goal.invariant-loop-i
invariant-loop-i l = record {
  within : l.i ≤ length l.components;
  emitted : Emitted l.fn.code.items l.code.items (work_code l.count None (routine_of l.types l.count l.i (drop l.i l.components)));
}

abbrev pub decreases-loop-i : goal.decreases-loop-i
decreases-loop-i l = l.i
