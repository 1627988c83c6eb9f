use Rattle.std.proofs.Common.{◌≤◌, ◌-◌, length}
use Rattle.f3_text.specs.Inner.Reading.{ArePlain}
use Rattle.f3_text.proofs.reading.plain_length.Given as goal

abbrev pub invariant-loop-count : goal.invariant-loop-count
invariant-loop-count l = record {
  within : l.count ≤ length l.bytes;
  plain : ArePlain l.count l.bytes;
}

abbrev pub decreases-loop-count : goal.decreases-loop-count
decreases-loop-count l = length l.bytes - l.count
