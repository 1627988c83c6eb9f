use Rattle.std.proofs.Common.{◌≤◌, length, drop, map}
use Rattle.f3_program.specs.declared.program.Dummy.{Dummy}
use Rattle.f3_code.specs.Lower.{discard_work}
use Rattle.f3_code.specs.Code.{discard_code}
use Rattle.f3_gen_values.specs.Emitted.{Emitted}
use Rattle.f3_gen_procedures.proofs.ends.emit_held_arguments.Given as goal

abbrev pub invariant-loop-i : goal.invariant-loop-i
invariant-loop-i l = record {
  within : l.i ≤ length l.dummies;
  emitted : Emitted l.fn.code.items l.code.items (discard_code 0 l.i (map (λ (d : Dummy). discard_work d.kind) (drop l.i l.dummies)));
}

abbrev pub decreases-loop-i : goal.decreases-loop-i
decreases-loop-i l = l.i
