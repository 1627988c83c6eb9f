use Rattle.std.proofs.Common.{◌≤◌, length, drop}
use Rattle.f3_code.specs.Code.{bytes_code}
use Rattle.f3_gen_values.specs.Emitted.{Emitted}
use Rattle.f3_gen_actions.proofs.output.emit_bytes.Given as goal

abbrev pub invariant-loop-i : goal.invariant-loop-i
invariant-loop-i l = record { within : l.i ≤ length l.bytes; emitted : Emitted l.fn.code.items l.code.items (bytes_code l.place (drop l.i l.bytes)) }

abbrev pub decreases-loop-i : goal.decreases-loop-i
decreases-loop-i l = l.i
