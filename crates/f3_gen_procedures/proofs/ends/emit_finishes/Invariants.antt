use Rattle.std.proofs.Common.{◌≤◌, length, drop, map}
use Rattle.f3_program.specs.declared.declarations.Declared.{Declared}
use Rattle.f3_code.specs.Lower.{end_work}
use Rattle.f3_code.specs.Code.{finish_code}
use Rattle.f3_gen_work.specs.EmittedIn.{EmittedIn}
use Rattle.f3_gen_procedures.proofs.ends.emit_finishes.Given as goal

abbrev pub invariant-loop-i : goal.invariant-loop-i
invariant-loop-i l = record {
  within : l.i ≤ length l.locals;
  emitted : EmittedIn l.types l.fn.code.items l.code.items (λ g. finish_code (length l.types) l.i (map (λ (d : Declared). end_work g d.kind) (drop l.i l.locals)));
}

abbrev pub decreases-loop-i : goal.decreases-loop-i
decreases-loop-i l = l.i
