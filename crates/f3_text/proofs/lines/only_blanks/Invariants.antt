use Rattle.std.proofs.Common.{◌≡◌, length}
use Rattle.f3_text.specs.Lines.{line, all_blank, text}
use Rattle.f3_text.specs.Reader.{ahead}
use Rattle.f3_text.proofs.lines.only_blanks.Given as goal

abbrev pub invariant-loop-letter : goal.invariant-loop-letter
invariant-loop-letter l = all_blank (text l.within (line (ahead l.at))) ≡ all_blank (text l.fn.quoting (line (ahead l.fn.cursor)))

abbrev pub decreases-loop-letter : goal.decreases-loop-letter
decreases-loop-letter l = length (ahead l.at)
