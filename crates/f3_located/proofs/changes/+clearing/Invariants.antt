use Rattle.std.proofs.Common.{◌≡◌, ◌++◌, drop, map}
use Rattle.f3_meaning_whole.specs.Value as v
use Rattle.f3_data.specs.Values.{values_of}
use Rattle.f3_located.proofs.changes.+clearing.Given as goal

abbrev pub invariant-all_cleared-loop-value : goal.invariant-all_cleared-loop-value
invariant-all_cleared-loop-value l = values_of l.all.items ++ map v.cleared (values_of (drop l.value-index l.values)) ≡ map v.cleared (values_of l.values)
