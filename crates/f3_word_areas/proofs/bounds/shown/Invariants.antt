use Rattle.std.proofs.Common.{◌≡◌, ◌≤◌, length, take}
use Rattle.f3_meaning_whole.specs.Value.{shown}
use Rattle.f3_word_cells.specs.Areas.{spans_of}
use Rattle.f3_word_areas.proofs.bounds.shown.Given as goal

abbrev pub invariant-loop-dim : goal.invariant-loop-dim
invariant-loop-dim l = record { items : spans_of l.others.items ≡ shown (spans_of (take l.dim-index l.dim-items)); short : length l.dim-items ≤ 7; same : l.dim-items ≡ l.dims.items }
