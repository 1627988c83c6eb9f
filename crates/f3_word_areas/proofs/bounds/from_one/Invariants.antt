use Rattle.std.proofs.Common.{◌≡◌, ◌≤◌, length, take}
use Rattle.f3_word_areas.specs.Dims.{dims_from_one}
use Rattle.f3_word_areas.proofs.bounds.from_one.Given as goal

abbrev pub invariant-loop-dim : goal.invariant-loop-dim
invariant-loop-dim l = record { items : l.others.items ≡ dims_from_one (take l.dim-index l.dim-items); short : length l.dim-items ≤ 7; same : l.dim-items ≡ l.dims.items }
