use Rattle.std.proofs.Common.{◌≤◌, length, drop}
use Rattle.f3_code.specs.Code.{items_code}
use Rattle.f3_gen_values.specs.Emitted.{Emitted}
use Rattle.f3_gen_actions.proofs.output.emit_items.Given as goal

abbrev pub invariant-loop-i : goal.invariant-loop-i
invariant-loop-i l = record { within : l.i ≤ length l.items; emitted : Emitted l.fn.code.items l.code.items (items_code l.place (drop l.i l.items)) }

abbrev pub decreases-loop-i : goal.decreases-loop-i
decreases-loop-i l = l.i
