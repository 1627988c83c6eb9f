use Rattle.std.proofs.Common.{◌≡◌, take, map}
use Rattle.f3_meaning_whole.specs.Exec.{held}
use Rattle.f3_data.specs.Values.{values_of}
use Rattle.f3_cells.specs.Cells.{passed_of}
use Rattle.f3_call_steps.proofs.arguments.held.Given as goal

abbrev pub invariant-loop-argument : goal.invariant-loop-argument
invariant-loop-argument l = values_of l.values.items ≡ held (map passed_of (take l.argument-index l.arguments))
