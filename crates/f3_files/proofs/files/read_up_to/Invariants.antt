use Rattle.std.proofs.Common.{◌≤◌, length, ◌-◌}
use Rattle.f3_files.proofs.Reading.{Taken}
use Rattle.f3_files.proofs.files.read_up_to.Given as goal

abbrev pub invariant-loop-bytes : goal.invariant-loop-bytes
invariant-loop-bytes g l = (length l.bytes.items ≤ l.most) × Taken (g.R.Read.remaining l.fn.reader) (g.R.Read.remaining l.reader) l.bytes.items

abbrev pub decreases-loop-bytes : goal.decreases-loop-bytes
decreases-loop-bytes g l = l.most - length l.bytes.items
