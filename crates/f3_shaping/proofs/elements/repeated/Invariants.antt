use Rattle.std.proofs.Common.{◌≡◌, ◌≤◌, ◌-◌, vec_len}
use Rattle.std.specs.Prelude.{replicate}
use Rattle.f3_data.specs.Values.{value_of, values_of}
use Rattle.f3_shaping.proofs.elements.repeated.Given as goal

abbrev pub invariant-values : goal.invariant-values
invariant-values l = record {
  room : vec_len l.all ≤ l.n;
  same : values_of l.all.items ≡ replicate (vec_len l.all) (value_of l.value);
}

abbrev pub decreases-values : goal.decreases-values
decreases-values l = l.n - vec_len l.all
