use Rattle.std.proofs.Common.{◌≡◌, map}
use Rattle.f3_meaning_whole.specs.Act.{given}
use Rattle.f3_data.specs.Values.{values_of}
use Rattle.f3_cells.specs.Cells.{passed_of}
use Rattle.f3_value_steps.proofs.constructors.given.Given as goal

abbrev pub invariant-loop-argument : goal.invariant-loop-argument
invariant-loop-argument l = values_of l.values.items ≡ given (map passed_of l.yielded)
