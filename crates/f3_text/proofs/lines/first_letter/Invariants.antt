use Rattle.std.proofs.Common.{◌≡◌, length, ◌≤◌}
use Rattle.f3_text.specs.Lines.{line, lines_below, is_comment, first_ampersand}
use Rattle.f3_text.specs.Reader.{ahead}
use Rattle.f3_text.proofs.lines.first_letter.Given as goal

abbrev pub invariant-loop-letter : goal.invariant-loop-letter
invariant-loop-letter l = record { comment : is_comment (line (ahead l.at)) ≡ is_comment (line (ahead l.initial.at)); first : first_ampersand (line (ahead l.at)) ≡ first_ampersand (line (ahead l.initial.at)); below : lines_below (ahead l.at) ≡ lines_below (ahead l.initial.at); within : length (ahead l.at) ≤ length (ahead l.initial.at); file : l.at.file ≡ l.initial.at.file }

abbrev pub decreases-loop-letter : goal.decreases-loop-letter
decreases-loop-letter l = length (ahead l.at)
