use Rattle.std.proofs.Common.{◌≡◌, ◌≤◌, ◌++◌, length, drop, map, reverse}
use Rattle.f3_meaning_whole.specs.Act.{Setting}
use Rattle.f3_code.specs.Lower.{lowered_procedure}
use Rattle.f3_code.specs.Code.{procedures_code}
use Rattle.f3_gen_work.specs.EmittedIn.{EmittedIn}
use Rattle.f3_gen_procedures.specs.Ends.{procedure_ends}
use Rattle.f3_gen_program.proofs.procedures.emit_procedures.Given as goal

abbrev pub invariant-loop-i : goal.invariant-loop-i
invariant-loop-i l = record {
  within : l.i ≤ length l.procedures;
  emitted : EmittedIn l.types l.fn.code.items l.code.items (λ g. procedures_code (length l.types) (map (lowered_procedure g) (drop l.i l.procedures)));
  ended : (g : Setting) → g.program.types.items ≡ l.types → l.ends.items ≡ l.fn.ends.items
      ++ reverse (procedure_ends (length l.types) (length l.fn.code.items) (map (lowered_procedure g) (drop l.i l.procedures)));
}

abbrev pub decreases-loop-i : goal.decreases-loop-i
decreases-loop-i l = l.i
