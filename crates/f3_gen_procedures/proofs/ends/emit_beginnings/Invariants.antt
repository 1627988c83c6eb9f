use Rattle.std.proofs.Common.{◌≤◌, length, drop, map}
use Rattle.f3_program.specs.declared.program.Dummy.{Dummy}
use Rattle.f3_code.specs.Lower.{out_work}
use Rattle.f3_code.specs.Code.{begin_code}
use Rattle.f3_gen_work.specs.EmittedIn.{EmittedIn}
use Rattle.f3_gen_procedures.proofs.ends.emit_beginnings.Given as goal

abbrev pub invariant-loop-i : goal.invariant-loop-i
invariant-loop-i l = record {
  within : l.i ≤ length l.dummies;
  emitted : EmittedIn l.types l.fn.code.items l.code.items (λ g. begin_code (length l.types) (map (λ (d : Dummy). out_work g d.intent d.kind) (drop l.i l.dummies)));
}

abbrev pub decreases-loop-i : goal.decreases-loop-i
decreases-loop-i l = l.i
