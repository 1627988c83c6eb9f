use Rattle.std.proofs.Common.{◌≡◌, take, map}
use Rattle.f3_meaning_whole.specs.Arithmetic.{constant_value}
use Rattle.f3_data.specs.Values.{values_of}
use Rattle.f3_shaping.proofs.initial.constant_values.Given as goal

abbrev pub invariant-loop-scalar : goal.invariant-loop-scalar
invariant-loop-scalar l = values_of l.values.items ≡ map constant_value (take l.scalar-index l.constants)
