use Rattle.std.proofs.Common.{◌≡◌, length, ◌≤◌}
use Rattle.f3_text.specs.Lines.{lines_of}
use Rattle.f3_text.specs.Reader.{ahead}
use Rattle.f3_text.proofs.lines.text_line.Given as goal

abbrev pub invariant-loop-start : goal.invariant-loop-start
invariant-loop-start l = record { lines : lines_of (ahead l.start) ≡ lines_of (ahead l.initial.start); within : length (ahead l.start) ≤ length (ahead l.initial.start); file : l.start.file ≡ l.initial.start.file }

abbrev pub decreases-loop-start : goal.decreases-loop-start
decreases-loop-start l = length (ahead l.start)
