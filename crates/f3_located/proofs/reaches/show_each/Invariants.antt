use Rattle.std.proofs.Common.{◌≡◌, ◌++◌, take, drop}
use Rattle.f3_meaning_whole.specs.Value.{shown}
use Rattle.f3_data.specs.Values.{spans_of}
use Rattle.f3_located.proofs.reaches.show_each.Given as goal

abbrev pub invariant-loop-span : goal.invariant-loop-span
invariant-loop-span l = spans_of (take l.span-index l.spans) ++ shown (spans_of (drop l.span-index l.spans)) ≡ shown (spans_of l.initial.spans)
