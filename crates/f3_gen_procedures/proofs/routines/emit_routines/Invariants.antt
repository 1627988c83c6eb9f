use Rattle.std.proofs.Common.{◌≡◌, ◌++◌, length, reverse, take, []}
use Rattle.f3_code.specs.Lower.{routines_from}
use Rattle.f3_code.specs.Code.{routines_code}
use Rattle.f3_gen_values.specs.Emitted.{Emitted}
use Rattle.f3_gen_procedures.specs.Ends.{routine_ends}
use Rattle.f3_gen_procedures.proofs.routines.emit_routines.Given as goal

abbrev pub invariant-loop-number : goal.invariant-loop-number
invariant-loop-number l = record {
  emitted : Emitted l.fn.code.items l.code.items (routines_code (routines_from l.types [] (take l.number l.types)));
  ended : l.ends.items ≡ l.fn.ends.items ++ reverse (routine_ends (length l.fn.code.items) (routines_from l.types [] (take l.number l.types)));
}
