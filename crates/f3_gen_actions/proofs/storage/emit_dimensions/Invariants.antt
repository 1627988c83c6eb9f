use Rattle.std.proofs.Common.{◌≤◌, length, drop}
use Rattle.f3_code.specs.Code.{dimensions_code}
use Rattle.f3_gen_values.specs.Emitted.{Emitted}
use Rattle.f3_gen_actions.proofs.storage.emit_dimensions.Given as goal

abbrev pub invariant-loop-i : goal.invariant-loop-i
invariant-loop-i l = record { within : l.i ≤ length l.bounds; emitted : Emitted l.fn.code.items l.code.items (dimensions_code l.place (drop l.i l.bounds)) }

abbrev pub decreases-loop-i : goal.decreases-loop-i
decreases-loop-i l = l.i
