use Rattle.std.proofs.Common.{◌≡◌, ◌≤◌, length}
use Rattle.f3_text.specs.declared.letter.Quoting.TheVariants.{Outside}
use Rattle.f3_text.specs.Reader.{ahead, spelled_of}
use Rattle.f3_text.specs.Inner.Reading.{going, none, Paired}
use Rattle.f3_text.proofs.reading.statement.Given as goal

abbrev pub invariant-loop-letter : goal.invariant-loop-letter
invariant-loop-letter l = record {
  same : going (spelled_of l.statement) l.mode.quoting l.mode.depth (ahead l.at) ≡ going none Outside 0 (ahead l.fn.cursor);
  paired : Paired (spelled_of l.statement);
  within : length (ahead l.at) ≤ length (ahead l.fn.cursor);
  file : l.at.file ≡ l.fn.cursor.file;
}

abbrev pub decreases-loop-letter : goal.decreases-loop-letter
decreases-loop-letter l = length (ahead l.at)
