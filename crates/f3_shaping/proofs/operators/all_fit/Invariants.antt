use Rattle.std.proofs.Common.{◌≡◌, drop}
use Rattle.f3_meaning_whole.specs.Value.{joined}
use Rattle.f3_meaning_whole.specs.Arithmetic.{all_fit}
use Rattle.f3_data.specs.Values.{values_of}
use Rattle.f3_shaping.proofs.operators.all_fit.Given as goal

abbrev pub invariant-loop-value : goal.invariant-loop-value
invariant-loop-value l = all_fit l.of (joined (values_of l.values)) ≡ all_fit l.of (joined (values_of (drop l.value-index l.values)))
